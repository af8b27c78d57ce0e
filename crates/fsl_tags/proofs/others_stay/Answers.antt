use Rattle.fsl_tags.proofs.Others.{others}
use Rattle.fsl_tags.proofs.others_stay.Goals as goal

pub returns : goal.returns
returns c = others
