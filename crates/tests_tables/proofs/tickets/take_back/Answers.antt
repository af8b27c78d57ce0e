use Rattle.tests_tables.proofs.Own.{tickets_as_is}
use Rattle.tests_tables.proofs.tickets.take_back.Goals as goal

pub undo-requires : goal.undo-requires
undo-requires c = tickets_as_is c.args.undo.after c.args.tickets.now c.requires
