use Rattle.fsl_uv.proofs.Talking.{stores_talk}
use Rattle.fsl_uv.proofs.laws.stores_talk.Goals as goal

pub returns : goal.returns
returns c = stores_talk
