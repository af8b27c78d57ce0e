use Rattle.fsl_journal.proofs.Failing.{one_place}
use Rattle.fsl_journal.proofs.laws.fails_once.Goals as goal

pub returns : goal.returns
returns c = one_place
