use Rattle.fsl_artifact.proofs.OneKind.{of_one_kind}
use Rattle.fsl_artifact.proofs.laws.text_is_of_one_kind.Goals as goal

pub returns : goal.returns
returns c = of_one_kind
