use Rattle.fsl_checkin.proofs.FilesLemmas.{verdict_due}
use Rattle.fsl_checkin.proofs.laws.verify_reads_what_is_held.Goals as goal

pub returns : goal.returns
returns c = verdict_due
