use Rattle.std.proofs.Common.{◌≡◌, ◌++◌, take}
use Rattle.std.specs.List.{flat_map}
use Rattle.std.specs.Prelude.{option_to_list}
use Rattle.fsl_name.specs.Ref.{own_names}
use Rattle.fsl_artifact.proofs.names.append_files.Given as goal

abbrev pub invariant-loop-file : goal.invariant-loop-file
invariant-loop-file l = l.names.items ≡ l.fn.names.items ++ flat_map (λ file. own_names (option_to_list file.hash)) (take l.file-index l.files)
