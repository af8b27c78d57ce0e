use Rattle.std.proofs.Common.{◌≡◌, ◌≤◌, ◌-◌, drop, length}
use Rattle.fsl_tags.specs.Same.{same_rows}
use Rattle.fsl_tags.proofs.same.is_same_along.Given as goal

-- what is left decides
abbrev pub invariant-loop-place : goal.invariant-loop-place
invariant-loop-place l = record {
  left : same_rows (drop l.place l.a) (drop l.place l.b) ≡ same_rows l.a l.b;
  within : l.place ≤ length l.a;
}

abbrev pub decreases-loop-place : goal.decreases-loop-place
decreases-loop-place l = length l.a - l.place
