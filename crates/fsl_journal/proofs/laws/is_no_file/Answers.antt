use Rattle.fsl_journal.proofs.Failing.{no_file}
use Rattle.fsl_journal.proofs.laws.is_no_file.Goals as goal

pub returns : goal.returns
returns c = no_file
