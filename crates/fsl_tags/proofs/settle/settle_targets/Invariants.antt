use Rattle.std.proofs.Common.{List, ℕ, take}
use Rattle.std.specs.List.{AllByRecursion}
use Rattle.fsl_tags.specs.Laying.{AreSettled, IsKnown}
use Rattle.fsl_tags.proofs.settle.settle_targets.Given as goal

-- the targets that were passed have their rows
abbrev pub invariant-loop-assertion : goal.invariant-loop-assertion
invariant-loop-assertion g l = record {
  right : AreSettled l.facts.held.entries l.own.held.entries l.settled.entries;
  there : AllByRecursion (λ a. IsKnown l.settled.entries a.target) (take l.assertion-index l.assertions);
  stay : (q : List ℕ) → IsKnown l.fn.settled.entries q → IsKnown l.settled.entries q;
}
