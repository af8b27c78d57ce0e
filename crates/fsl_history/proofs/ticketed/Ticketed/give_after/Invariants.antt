use Rattle.std.specs.Prelude.{Some}
use Rattle.fsl_history.proofs.ticketed.Ticketed.give_after.Given as goal

abbrev pub ghosts-give_as : goal.ghosts-give_as
ghosts-give_as g a = record { call = Some (a.event.now, a.answer.now) }
