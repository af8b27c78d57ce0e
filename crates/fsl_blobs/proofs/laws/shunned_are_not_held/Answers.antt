use Rattle.fsl_blobs.proofs.ShunnedNames as shunned
use Rattle.fsl_blobs.proofs.laws.shunned_are_not_held.Goals as goal

pub returns : goal.returns
returns c = shunned.shunned_are_not_held
