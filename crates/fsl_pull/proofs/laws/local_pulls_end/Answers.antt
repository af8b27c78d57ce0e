use Rattle.fsl_pull.proofs.LocalEnds.{local_pulls_end}
use Rattle.fsl_pull.proofs.laws.local_pulls_end.Goals as goal

pub returns : goal.returns
returns c = local_pulls_end
