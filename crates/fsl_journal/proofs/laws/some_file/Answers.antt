use Rattle.fsl_journal.proofs.SomeFile.{some_file as each_is_some}
use Rattle.fsl_journal.proofs.laws.some_file.Goals as goal

pub returns : goal.returns
returns c = each_is_some
