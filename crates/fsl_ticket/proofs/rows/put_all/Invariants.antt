use Rattle.std.proofs.Common.{◌≡◌, ◌≤◌, drop, length}
use Rattle.fsl_order.specs.Rows.{by_name}
use Rattle.fsl_ticket.specs.Kept.{IsKept, facts_of, rows_of}
use Rattle.fsl_ticket.proofs.rows.put_all.Given as goal

-- those that are done are there
abbrev pub invariant-loop-left : goal.invariant-loop-left
invariant-loop-left g l = record {
  done : facts_of l.maps.facts.held.entries ≡ by_name (λ f. f.name) (drop l.left l.all);
  kept : IsKept (rows_of l.maps);
  within : l.left ≤ length l.all;
}

abbrev pub decreases-loop-left : goal.decreases-loop-left
decreases-loop-left g l = l.left
