use Rattle.std.proofs.Common.{◌≡◌, length}
use Rattle.std.specs.Cmp.Lexicographic.{pointwise}
use Rattle.fsl_files.specs.Same.{is_row}
use Rattle.fsl_files.proofs.same.are_files.Given as goal

-- what is left of both decides
abbrev pub invariant-loop-row : goal.invariant-loop-row
invariant-loop-row l = pointwise is_row l.left l.right ≡ pointwise is_row l.fn.old l.fn.new

abbrev pub decreases-loop-row : goal.decreases-loop-row
decreases-loop-row l = length l.left
