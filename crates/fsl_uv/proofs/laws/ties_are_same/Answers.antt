use Rattle.fsl_uv.proofs.Versions.{ties_are_same}
use Rattle.fsl_uv.proofs.laws.ties_are_same.Goals as goal

pub returns : goal.returns
returns c = ties_are_same
