use Rattle.fsl_forum.proofs.Invalid.{invalid_stays}
use Rattle.fsl_forum.proofs.invalid_stays.Goals as goal

pub returns : goal.returns
returns c = invalid_stays
