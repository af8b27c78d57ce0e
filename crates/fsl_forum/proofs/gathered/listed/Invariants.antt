use Rattle.std.proofs.Common.{◌≡◌, ◌++◌, length}
use Rattle.std.specs.Map.{values_of}
use Rattle.fsl_forum.proofs.gathered.listed.Given as goal

-- with what is left, it is the whole
abbrev pub invariant-loop-post : goal.invariant-loop-post
invariant-loop-post l = l.posts ++ values_of l.left.entries ≡ values_of l.fn.thread.entries

abbrev pub decreases-loop-post : goal.decreases-loop-post
decreases-loop-post l = length l.left.entries
