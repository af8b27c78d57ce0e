use Rattle.std.proofs.Common.{◌≡◌, ◌≤◌, ℕ, List, drop, length}
use Rattle.fsl_ticket.specs.Seen.{value_in}
use Rattle.fsl_ticket.specs.Walked.{value_down}
use Rattle.fsl_ticket.proofs.walk.values_of.Given as goal

-- those that are done have given their values
abbrev pub invariant-loop-left : goal.invariant-loop-left
invariant-loop-left g l = record {
  within : l.left ≤ length l.names;
  done : (q : List ℕ) → value_in l.values.entries q ≡ value_down l.facts.held.entries (drop l.left l.names) q;
}

abbrev pub decreases-loop-left : goal.decreases-loop-left
decreases-loop-left g l = l.left
