use Rattle.std.proofs.Common.{◌≡◌, ◌+◌, ◌-◌, drop, take}
use Rattle.std.specs.Prelude.{sum_by}
use Rattle.fsl_answer.specs.Replies.{taken, taken_after}
use Rattle.fsl_answer.proofs.budget.taken.Given as goal

abbrev pub invariant-loop-at : goal.invariant-loop-at
invariant-loop-at l = record {
  count : taken l.sizes ≡ l.at + taken_after (sum_by (λ size. size + 64) (take l.at l.sizes)) (drop l.at l.sizes);
  left : l.left ≡ 1000000 - sum_by (λ size. size + 64) (take l.at l.sizes);
}
