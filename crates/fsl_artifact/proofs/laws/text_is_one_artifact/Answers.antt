use Rattle.fsl_artifact.proofs.OneKind.{one_artifact}
use Rattle.fsl_artifact.proofs.laws.text_is_one_artifact.Goals as goal

pub returns : goal.returns
returns c = one_artifact
