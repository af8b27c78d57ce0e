use Rattle.fsl_history.specs.Entries.{first_state}
use Rattle.tests_sync.proofs.history.four_users.play_on.Given as goal

abbrev pub ghosts-play : goal.ghosts-play
ghosts-play g a = record { table = a.housed.table.shared.table_id; first = first_state a.housed.table.shared.key.items; passes = 4 }
