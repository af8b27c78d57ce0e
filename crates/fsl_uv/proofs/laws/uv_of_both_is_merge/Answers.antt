use Rattle.fsl_uv.proofs.Merging.{uv_of_both_is_merge}
use Rattle.fsl_uv.proofs.laws.uv_of_both_is_merge.Goals as goal

pub returns : goal.returns
returns c = uv_of_both_is_merge
