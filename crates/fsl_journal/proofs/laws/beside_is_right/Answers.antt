use Rattle.fsl_journal.proofs.Walked.{beside_right}
use Rattle.fsl_journal.proofs.laws.beside_is_right.Goals as goal

pub returns : goal.returns
returns c = beside_right
