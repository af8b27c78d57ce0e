use Rattle.std.specs.List.{IsDistinct}
use Rattle.tests_tables.proofs.tickets.table.Goals as goal

pub build-requires : goal.build-requires
unfolding IsDistinct
build-requires c = tt
