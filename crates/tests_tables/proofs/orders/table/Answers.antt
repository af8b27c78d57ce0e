use Rattle.std.proofs.Common.{[]}
use Rattle.std.specs.List.{IsDistinct}
use Rattle.fsl_order.specs.Rows.{AreDistinct}
use Rattle.tests_tables.proofs.orders.table.Goals as goal

none : AreDistinct []
unfolding IsDistinct
none = tt

pub build-requires : goal.build-requires
build-requires c = none
