use Rattle.std.proofs.Common.{rules}
use Rattle.fsl_forum.proofs.reached.end_for.Goals as goal

pub returns-else-stands_in : goal.returns-else-stands_in
returns-else-stands_in c = search rules
