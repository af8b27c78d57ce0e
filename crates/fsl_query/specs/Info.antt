-- What the file is: its codes and configured fields, and how much it holds.
use Rattle.std.specs.Prelude.{◌≡◌, ℕ, List, [], ◌++◌, codes, flat_map, length}
use Rattle.std.specs.Option.{option_map_or}
use Rattle.std.specs.FinMap as map_of
use Rattle.std.specs.FinSet as set
use Rattle.fsl_order.specs.Rows.{ascending}
use Rattle.fsl_record.specs.declared.Config.{Config}
use Rattle.fsl_blobs.specs.Fold.{Contents, HeldSet, held_bytes, private_names}
use Rattle.fsl_query.specs.declared.info.Sizes.{Sizes}
use Rattle.fsl_query.specs.Lines.{code_line, configured_line, count_line}

-- the codes, and the configured fields in their order
abbrev pub config_lines : Config → List ℕ
config_lines config = code_line (codes "project") config.project ++ code_line (codes "server") config.server ++ flat_map configured_line config.fields

-- how many artifacts are held, how many of these are private, and the sum of their sizes
abbrev pub held_lines : ℕ → ℕ → ℕ → List ℕ
held_lines artifacts private bytes = count_line (codes "artifacts") artifacts ++ count_line (codes "private") private ++ count_line (codes "bytes") bytes

abbrev pub lines_of_held : HeldSet → List ℕ
lines_of_held held = held_lines (map_of.len held) (length (private_names held)) (held_bytes held)

-- how many names are shunned, and how many are wanted
abbrev pub missing_lines : ℕ → ℕ → List ℕ
missing_lines shunned wanted = count_line (codes "shunned") shunned ++ count_line (codes "wanted") wanted

-- what the file is, with the number of the names that are wanted
abbrev pub info_told : Contents → ℕ → List ℕ
info_told c wanted =
    option_map_or config_lines c.config [] ++ lines_of_held c.held ++ missing_lines (length (ascending (set.items c.shunned))) wanted

abbrev pub info_report : Contents → List (List ℕ) → List ℕ
info_report c wanted = info_told c (length wanted)

-- these are the sizes of what is held
pub record AreSizesOf (held : HeldSet) (sizes : Sizes) : Type 0 where
  pub artifacts : sizes.artifacts ≡ map_of.len held
  pub private : sizes.private ≡ length (private_names held)
  pub bytes : sizes.bytes ≡ held_bytes held
