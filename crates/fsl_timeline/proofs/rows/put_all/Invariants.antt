use Rattle.std.proofs.Common.{◌≡◌, ◌++◌, List, vec_len}
use Rattle.fsl_order.specs.Rows.{by_name}
use Rattle.fsl_timeline.specs.declared.Row.{Row}
use Rattle.fsl_timeline.specs.Kept.{IsKept, rows_in, rows_of}
use Rattle.fsl_timeline.proofs.rows.put_all.Given as goal

-- the rows behind those that are left are there
abbrev pub invariant-loop-row : goal.invariant-loop-row
invariant-loop-row g l =
    (done : List Row) × (l.left.items ++ done ≡ l.fn.all) × (rows_of l.maps.rows.held.entries ≡ by_name (λ f. f.name) done) × IsKept (rows_in l.maps)

abbrev pub decreases-loop-row : goal.decreases-loop-row
decreases-loop-row g l = vec_len l.left
