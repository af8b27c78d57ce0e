use Rattle.fsl_journal.proofs.Walked.{cut_a_step}
use Rattle.fsl_journal.proofs.laws.cut_is_a_step.Goals as goal

pub returns : goal.returns
returns c = cut_a_step
