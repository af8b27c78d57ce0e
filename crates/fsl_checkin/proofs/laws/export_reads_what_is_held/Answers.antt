use Rattle.fsl_checkin.proofs.FilesLemmas.{export_due}
use Rattle.fsl_checkin.proofs.laws.export_reads_what_is_held.Goals as goal

pub returns : goal.returns
returns c = export_due
