use Rattle.fsl_journal.proofs.Besides.{front_whole}
use Rattle.fsl_journal.proofs.laws.front_is_whole.Goals as goal

pub returns : goal.returns
returns c = front_whole
