use Rattle.std.proofs.Common.{rules}
use Rattle.fsl_ticket.proofs.values.take.Goals as goal

pub returns-else-card : goal.returns-else-card
returns-else-card c = search rules
