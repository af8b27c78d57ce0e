use Rattle.fsl_cluster.proofs.clusters.Clusters.missing.Given as goal

abbrev pub ghosts-missing_counted : goal.ghosts-missing_counted
ghosts-missing_counted a = record { name = a.blank.name; parts = a.blank.parts }
