use Rattle.fsl_pull.proofs.CommitsLaw.{syncs_commit}
use Rattle.fsl_pull.proofs.laws.syncs_commit.Goals as goal

pub returns : goal.returns
returns c = syncs_commit
