-- What the file is, by what was counted of it.
use Rattle.std.proofs.Common.{◌≡◌, ℕ, [], ◌++◌, length, Some, sym}
use Rattle.std.specs.Option.{option_map_or}
use Rattle.std.specs.FinSet as set
use Rattle.fsl_order.specs.Rows.{ascending}
use Rattle.fsl_record.specs.declared.Config.{Config}
use Rattle.fsl_blobs.specs.Fold.{Contents}
use Rattle.fsl_query.specs.declared.info.Sizes.{Sizes}
use Rattle.fsl_query.specs.Info.{AreSizesOf, config_lines, held_lines, info_told, missing_lines}

pub info_is : (c : Contents) (config : Config) (sizes : Sizes) (shunned wanted : ℕ) → c.config ≡ Some config → AreSizesOf c.held sizes → shunned ≡ length (ascending (set.items c.shunned))
    → config_lines config ++ held_lines sizes.artifacts sizes.private sizes.bytes ++ missing_lines shunned wanted ≡ info_told c wanted
info_is c config sizes shunned wanted has are same =
    λ i. option_map_or config_lines (sym has i) [] ++ held_lines (are.artifacts i) (are.private i) (are.bytes i) ++ missing_lines (same i) wanted
