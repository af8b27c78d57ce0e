use Rattle.std.proofs.Common.{rules}
use Rattle.fsl_forum.proofs.node.Node.place.Goals as goal

pub returns-in-Some-root : goal.returns-in-Some-root
returns-in-Some-root c = search rules
