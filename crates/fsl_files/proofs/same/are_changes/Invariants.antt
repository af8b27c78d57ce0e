use Rattle.std.proofs.Common.{◌≡◌, length}
use Rattle.std.specs.Cmp.Lexicographic.{pointwise}
use Rattle.fsl_files.specs.Same.{is_change}
use Rattle.fsl_files.proofs.same.are_changes.Given as goal

-- what is left of both decides
abbrev pub invariant-loop-one : goal.invariant-loop-one
invariant-loop-one l = pointwise is_change l.left l.right ≡ pointwise is_change l.fn.old l.fn.new

abbrev pub decreases-loop-one : goal.decreases-loop-one
decreases-loop-one l = length l.left
