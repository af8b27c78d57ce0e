use Rattle.fsl_journal.proofs.Walked.{commit_in_steps}
use Rattle.fsl_journal.proofs.laws.commit_in_steps.Goals as goal

pub returns : goal.returns
returns c = commit_in_steps
