use Rattle.fsl_journal.proofs.Besides.{keeps}
use Rattle.fsl_journal.proofs.laws.commit_keeps.Goals as goal

pub returns : goal.returns
returns c = keeps
