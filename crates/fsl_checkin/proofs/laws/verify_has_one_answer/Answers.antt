use Rattle.fsl_checkin.proofs.OneLemmas.{verdict_is_one}
use Rattle.fsl_checkin.proofs.laws.verify_has_one_answer.Goals as goal

pub returns : goal.returns
returns c = verdict_is_one
