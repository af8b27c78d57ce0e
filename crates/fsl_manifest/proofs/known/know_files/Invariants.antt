use Rattle.std.proofs.Common.{drop}
use Rattle.std.specs.Prelude.{option_to_list}
use Rattle.std.specs.List.{AllByRecursion}
use Rattle.fsl_name.specs.Ref.{IsRef}
use Rattle.fsl_manifest.proofs.known.know_files.Given as goal

abbrev pub invariant-loop-file : goal.invariant-loop-file
invariant-loop-file l =
    AllByRecursion (λ file. AllByRecursion IsRef (option_to_list file.hash)) (drop l.file-index l.files)
    → AllByRecursion (λ file. AllByRecursion IsRef (option_to_list file.hash)) l.files
