use Rattle.std.proofs.Common.{rules}
use Rattle.fsl_ticket.proofs.place.PlaceOrd.cmp.Goals as goal

pub returns : goal.returns
returns c = search rules
