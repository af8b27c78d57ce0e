use Rattle.fsl_journal.proofs.Walked.{file_groups}
use Rattle.fsl_journal.proofs.laws.file_has_groups.Goals as goal

pub returns : goal.returns
returns c = file_groups
