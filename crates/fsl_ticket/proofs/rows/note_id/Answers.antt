use Rattle.std.proofs.Common.{rules}
use Rattle.fsl_ticket.proofs.rows.note_id.Goals as goal

pub returns-in-Some : goal.returns-in-Some
returns-in-Some g c = search rules
