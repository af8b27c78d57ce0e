use Rattle.fsl_journal.proofs.Unique.{one_file}
use Rattle.fsl_journal.proofs.laws.is_one_file.Goals as goal

pub returns : goal.returns
returns c = one_file
