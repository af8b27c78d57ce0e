use Rattle.std.proofs.Common.{List, ℕ, length}
use Rattle.fsl_tags.specs.Laying.{AreSettled, IsKnown}
use Rattle.fsl_tags.proofs.settle.settle.Given as goal

-- the rows are right, and none is lost
abbrev pub invariant-loop-at : goal.invariant-loop-at
invariant-loop-at g l = record {
  right : AreSettled l.facts.held.entries l.own.held.entries l.settled.entries;
  stay : (q : List ℕ) → IsKnown l.fn.settled.entries q → IsKnown l.settled.entries q;
}

abbrev pub decreases-loop-at : goal.decreases-loop-at
decreases-loop-at g l = length l.above.items
