use Rattle.tests_laws.proofs.works.arrive.Given as goal

abbrev pub ghosts-arrive_counted : goal.ghosts-arrive_counted
ghosts-arrive_counted a = record { name = a.blank.name; parts = a.blank.parts }
