use Rattle.tests_tables.proofs.Own.{as_is}
use Rattle.tests_tables.proofs.tags.late.take_back.Goals as goal

pub undo-requires : goal.undo-requires
undo-requires c = as_is c.args.undo.after c.args.tags.now c.requires
