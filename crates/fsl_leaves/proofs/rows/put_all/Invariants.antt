use Rattle.std.proofs.Common.{◌≡◌, ◌++◌, List, vec_len}
use Rattle.fsl_order.specs.Rows.{by_name}
use Rattle.fsl_leaves.specs.declared.Fact.{Fact}
use Rattle.fsl_leaves.specs.Kept.{IsKept, facts_of, rows_of}
use Rattle.fsl_leaves.proofs.rows.put_all.Given as goal

-- the facts behind those that are left are there
abbrev pub invariant-loop-fact : goal.invariant-loop-fact
invariant-loop-fact g l =
    (done : List Fact) × (l.left.items ++ done ≡ l.fn.all) × (facts_of l.maps.facts.held.entries ≡ by_name (λ f. f.name) done) × IsKept (rows_of l.maps)

abbrev pub decreases-loop-fact : goal.decreases-loop-fact
decreases-loop-fact g l = vec_len l.left
