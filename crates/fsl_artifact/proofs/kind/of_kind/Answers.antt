use Rattle.std.proofs.Common.{rules}
use Rattle.fsl_artifact.proofs.kind.of_kind.Goals as goal

pub returns : goal.returns
returns c = search rules
