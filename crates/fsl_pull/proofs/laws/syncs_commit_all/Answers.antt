use Rattle.fsl_pull.proofs.CommitsAllLaw.{syncs_commit_all}
use Rattle.fsl_pull.proofs.laws.syncs_commit_all.Goals as goal

pub returns : goal.returns
returns c = syncs_commit_all
