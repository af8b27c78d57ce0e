use Rattle.fsl_pull.proofs.MovesLaw.{syncs_move_on}
use Rattle.fsl_pull.proofs.laws.syncs_move_on.Goals as goal

pub returns : goal.returns
returns c = syncs_move_on
