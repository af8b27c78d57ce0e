-- The order of places is a total one, in which only equal ones tie.
use Rattle.std.proofs.Common.{sym}
use Rattle.std.specs.FinMap.{IsAntisymmetric}
use Rattle.std.specs.Cmp.{IsTotalOrder}
use Rattle.std.proofs.lemmas.Cmp.{back_total}
use Rattle.fsl_order.proofs.Orders.{dated_cmp-IsTotalOrder, dated_cmp-IsAntisymmetric}
use Rattle.fsl_ticket.specs.Newest.{newest_cmp}

pub newest_cmp-IsTotalOrder : IsTotalOrder newest_cmp
newest_cmp-IsTotalOrder = back_total dated_cmp-IsTotalOrder

pub newest_cmp-IsAntisymmetric : IsAntisymmetric newest_cmp
newest_cmp-IsAntisymmetric x y e = sym (dated_cmp-IsAntisymmetric y x e)
