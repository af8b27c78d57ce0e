use Rattle.fsl_manifest.proofs.FirstParent.{is_first_own}
use Rattle.fsl_manifest.proofs.laws.first_parent_is_own.Goals as goal

pub returns : goal.returns
returns c = is_first_own
