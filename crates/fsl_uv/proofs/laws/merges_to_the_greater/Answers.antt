use Rattle.fsl_uv.proofs.Merging.{merges_to_the_greater}
use Rattle.fsl_uv.proofs.laws.merges_to_the_greater.Goals as goal

pub returns : goal.returns
returns c = merges_to_the_greater
