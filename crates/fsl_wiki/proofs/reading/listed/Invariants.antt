use Rattle.std.proofs.Common.{◌≡◌, ◌++◌, length}
use Rattle.std.specs.Map.{values_of}
use Rattle.fsl_wiki.proofs.reading.listed.Given as goal

-- with those that are left, it is all
abbrev pub invariant-loop-attached : goal.invariant-loop-attached
invariant-loop-attached l = l.list ++ values_of l.left.entries ≡ values_of l.fn.files.entries

abbrev pub decreases-loop-attached : goal.decreases-loop-attached
decreases-loop-attached l = length l.left.entries
