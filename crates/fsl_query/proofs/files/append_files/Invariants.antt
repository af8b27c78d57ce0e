use Rattle.std.proofs.Common.{◌≡◌, ◌++◌, take}
use Rattle.std.specs.Prelude.{flat_map}
use Rattle.fsl_query.specs.Lines.{file_line}
use Rattle.fsl_query.proofs.files.append_files.Given as goal

-- the files that were passed have their lines
abbrev pub invariant-loop-file : goal.invariant-loop-file
invariant-loop-file l = l.into ≡ l.initial.into ++ flat_map file_line (take l.file-index l.files)
