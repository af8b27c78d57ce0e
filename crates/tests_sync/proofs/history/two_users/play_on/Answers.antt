use Rattle.fsl_history.specs.Entries.{first_state-is}
use Rattle.tests_sync.proofs.history.two_users.play_on.Goals as goal

pub play-requires-clause-first : goal.play-requires-clause-first
play-requires-clause-first g c = (c.args.repo, first_state-is c.in-Ok.housed.table.shared.key.items c.args.repo c.in-Ok.ensures.born, c.in-Ok.ensures.born)
