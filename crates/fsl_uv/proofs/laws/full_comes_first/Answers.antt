use Rattle.fsl_uv.proofs.FullFirst.{full_comes_first}
use Rattle.fsl_uv.proofs.laws.full_comes_first.Goals as goal

pub returns : goal.returns
returns c = full_comes_first
