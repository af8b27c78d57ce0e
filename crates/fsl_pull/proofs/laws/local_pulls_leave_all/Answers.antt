use Rattle.fsl_pull.proofs.LocalLaw.{local_pulls_leave_all}
use Rattle.fsl_pull.proofs.laws.local_pulls_leave_all.Goals as goal

pub returns : goal.returns
returns c = local_pulls_leave_all
