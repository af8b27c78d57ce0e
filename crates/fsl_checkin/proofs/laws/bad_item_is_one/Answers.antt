use Rattle.fsl_checkin.proofs.OneLemmas.{bad_is_one}
use Rattle.fsl_checkin.proofs.laws.bad_item_is_one.Goals as goal

pub returns : goal.returns
returns c = bad_is_one
