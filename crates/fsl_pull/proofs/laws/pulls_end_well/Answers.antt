use Rattle.fsl_pull.proofs.EndsWell.{pulls_end_well}
use Rattle.fsl_pull.proofs.laws.pulls_end_well.Goals as goal

pub returns : goal.returns
returns c = pulls_end_well
