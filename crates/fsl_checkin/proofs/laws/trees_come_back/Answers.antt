use Rattle.fsl_checkin.proofs.LawLemmas.{trees_come_back}
use Rattle.fsl_checkin.proofs.laws.trees_come_back.Goals as goal

pub returns : goal.returns
returns c = trees_come_back
