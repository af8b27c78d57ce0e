use Rattle.std.proofs.Common.{◌≡◌, ◌++◌, map, drop}
use Rattle.fsl_card.specs.Cards.{text_of}
use Rattle.fsl_manifest.specs.Writing.{file_card}
use Rattle.fsl_manifest.proofs.writing.write_files.Given as goal

abbrev pub invariant-loop-file : goal.invariant-loop-file
invariant-loop-file l =
    l.fn.into ++ text_of (map file_card l.files) ≡ l.into ++ text_of (map file_card (drop l.file-index l.files))
