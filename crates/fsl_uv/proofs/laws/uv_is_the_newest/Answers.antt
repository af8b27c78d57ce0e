use Rattle.fsl_uv.proofs.Merging.{uv_is_the_newest}
use Rattle.fsl_uv.proofs.laws.uv_is_the_newest.Goals as goal

pub returns : goal.returns
returns c = uv_is_the_newest
