use Rattle.fsl_checkin.proofs.OneLemmas.{export_is_one}
use Rattle.fsl_checkin.proofs.laws.export_has_one_answer.Goals as goal

pub returns : goal.returns
returns c = export_is_one
