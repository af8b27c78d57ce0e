use Rattle.fsl_login.proofs.Fronts.{fronts_tell}
use Rattle.fsl_login.proofs.laws.fronts_tell.Goals as goal

pub returns : goal.returns
returns c = fronts_tell
