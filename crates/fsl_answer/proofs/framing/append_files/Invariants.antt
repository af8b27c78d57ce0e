use Rattle.std.proofs.Common.{◌≡◌, ◌++◌, take}
use Rattle.std.specs.Prelude.{flat_map}
use Rattle.fsl_answer.specs.Replies.{file_lines}
use Rattle.fsl_answer.proofs.framing.append_files.Given as goal

abbrev pub invariant-loop-file : goal.invariant-loop-file
invariant-loop-file l = l.into ≡ l.initial.into ++ flat_map file_lines (take l.file-index l.files)
