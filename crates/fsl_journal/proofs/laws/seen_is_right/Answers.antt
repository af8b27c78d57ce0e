use Rattle.fsl_journal.proofs.Besides.{seen_right}
use Rattle.fsl_journal.proofs.laws.seen_is_right.Goals as goal

pub returns : goal.returns
returns c = seen_right
