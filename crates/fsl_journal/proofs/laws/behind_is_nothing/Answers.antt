use Rattle.fsl_journal.proofs.Besides.{behind_nothing}
use Rattle.fsl_journal.proofs.laws.behind_is_nothing.Goals as goal

pub returns : goal.returns
returns c = behind_nothing
