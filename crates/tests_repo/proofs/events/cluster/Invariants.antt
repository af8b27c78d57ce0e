use Rattle.tests_repo.proofs.events.cluster.Given as goal

abbrev pub ghosts-cluster_counted : goal.ghosts-cluster_counted
ghosts-cluster_counted g a = record { name = a.blank.name; parts = a.blank.parts }
