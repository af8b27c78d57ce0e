use Rattle.std.proofs.Common.{rules}
use Rattle.fsl_artifact.proofs.kind.parse.Goals as goal

pub returns-clause-tick : goal.returns-clause-tick
returns-clause-tick g c = search rules
