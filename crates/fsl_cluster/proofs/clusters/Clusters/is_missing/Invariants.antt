use Rattle.fsl_cluster.proofs.clusters.Clusters.is_missing.Given as goal

abbrev pub ghosts-is_missing_counted : goal.ghosts-is_missing_counted
ghosts-is_missing_counted a = record { name = a.blank.name; parts = a.blank.parts }
