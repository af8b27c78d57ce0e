use Rattle.fsl_pull.proofs.OneEnd.{syncs_have_one_end}
use Rattle.fsl_pull.proofs.laws.syncs_have_one_end.Goals as goal

pub returns : goal.returns
returns c = syncs_have_one_end
