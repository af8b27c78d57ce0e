use Rattle.std.proofs.Common.{◌≡◌, ◌+◌, ◌++◌, length}
use Rattle.fsl_files.specs.Files.{differences}
use Rattle.fsl_files.proofs.Differing.{path}
use Rattle.fsl_files.proofs.Merging.{Rise}
use Rattle.fsl_files.proofs.changes.differences.Given as goal

-- what was noted, with what is left to note, is all, and what is left of both lists rises
abbrev pub invariant-loop-changes : goal.invariant-loop-changes
invariant-loop-changes l = record {
  noted : l.changes ++ differences l.old l.new ≡ differences l.fn.old l.fn.new;
  old_rises : Rise path l.old;
  new_rises : Rise path l.new;
}

abbrev pub decreases-loop-changes : goal.decreases-loop-changes
decreases-loop-changes l = length l.old + length l.new
