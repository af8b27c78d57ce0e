use Rattle.std.proofs.Common.{◌≡◌, ◌++◌, List, vec_len}
use Rattle.fsl_order.specs.Rows.{by_name}
use Rattle.fsl_cluster.specs.declared.Fact.{Fact}
use Rattle.fsl_cluster.specs.Kept.{AreLaid, facts_of}
use Rattle.fsl_cluster.proofs.build.lay_all.Given as goal

-- the facts behind those that are left are there
abbrev pub invariant-loop-fact : goal.invariant-loop-fact
invariant-loop-fact g l =
    (done : List Fact) × (l.left.items ++ done ≡ l.fn.facts.items) × (facts_of l.tables.facts.entries ≡ by_name (λ f. f.name) done) × AreLaid l.tables × (l.tables.unclustered ≡ l.fn.tables.unclustered) × (l.tables.missing ≡ l.fn.tables.missing)

abbrev pub decreases-loop-fact : goal.decreases-loop-fact
decreases-loop-fact g l = vec_len l.left
