use Rattle.fsl_history.specs.Entries.{first_state-is}
use Rattle.tests_sync.proofs.history.four_users.play_on.Goals as goal

pub play-requires-clause-first : goal.play-requires-clause-first
play-requires-clause-first g c κs within = (c.args.toy, first_state-is c.in-Ok.housed.table.shared.key.items c.args.toy c.in-Ok.ensures.born, c.in-Ok.ensures.born)
