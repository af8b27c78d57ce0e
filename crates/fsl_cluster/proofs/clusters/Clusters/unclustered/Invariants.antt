use Rattle.fsl_cluster.proofs.clusters.Clusters.unclustered.Given as goal

abbrev pub ghosts-unclustered_counted : goal.ghosts-unclustered_counted
ghosts-unclustered_counted a = record { name = a.blank.name; parts = a.blank.parts }
