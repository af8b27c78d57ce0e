use Rattle.tests_kit.proofs.repos.arrive.Given as goal

abbrev pub ghosts-arrive_counted : goal.ghosts-arrive_counted
ghosts-arrive_counted g a = record { name = a.blank.name; parts = a.blank.parts }
