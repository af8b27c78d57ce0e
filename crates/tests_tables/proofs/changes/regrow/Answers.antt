use Rattle.tests_tables.proofs.Own.{as_is}
use Rattle.tests_tables.proofs.changes.regrow.Goals as goal

pub undo-requires : goal.undo-requires
undo-requires g c = as_is c.in-Ok.undo.after c.change.new.self c.in-Ok.ensures.after
