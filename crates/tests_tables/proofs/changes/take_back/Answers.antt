use Rattle.tests_tables.proofs.Own.{as_is}
use Rattle.tests_tables.proofs.changes.take_back.Goals as goal

pub undo-requires : goal.undo-requires
undo-requires c = as_is c.args.undo.after c.args.table.now c.requires
