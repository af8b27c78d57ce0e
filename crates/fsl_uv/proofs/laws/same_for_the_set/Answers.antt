use Rattle.fsl_uv.proofs.Merging.{same_for_the_set}
use Rattle.fsl_uv.proofs.laws.same_for_the_set.Goals as goal

pub returns : goal.returns
returns c = same_for_the_set
