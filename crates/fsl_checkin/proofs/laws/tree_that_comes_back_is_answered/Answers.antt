use Rattle.fsl_checkin.proofs.OneLemmas.{had_is_answered}
use Rattle.fsl_checkin.proofs.laws.tree_that_comes_back_is_answered.Goals as goal

pub returns : goal.returns
returns c = had_is_answered
