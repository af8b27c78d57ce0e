use Rattle.fsl_cluster.proofs.clusters.Clusters.from_facts.Given as goal

abbrev pub ghosts-from_counted : goal.ghosts-from_counted
ghosts-from_counted a = record { name = a.blank.name; parts = a.blank.parts }
