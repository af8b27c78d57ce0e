use Rattle.std.proofs.Common.{sym}
use Rattle.fsl_order.proofs.Orders.{bytes_cmp-IsAntisymmetric}
use Rattle.fsl_ticket.proofs.values.take_out.Goals as goal

pub returns-in-Some-clause-field : goal.returns-in-Some-clause-field
returns-in-Some-clause-field c = sym (bytes_cmp-IsAntisymmetric c.args.field.now c.in-Some.entry.0 c.in-Some.ensures.same_key)
