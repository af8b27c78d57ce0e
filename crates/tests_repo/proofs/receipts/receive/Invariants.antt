use Rattle.tests_repo.proofs.receipts.receive.Given as goal

abbrev pub ghosts-receive_counted : goal.ghosts-receive_counted
ghosts-receive_counted g a = record { name = a.blank.name; parts = a.blank.parts }
