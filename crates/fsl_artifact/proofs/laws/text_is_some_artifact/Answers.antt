use Rattle.fsl_artifact.proofs.SomeArtifact.{some_artifact}
use Rattle.fsl_artifact.proofs.laws.text_is_some_artifact.Goals as goal

pub returns : goal.returns
returns c = some_artifact
