use Rattle.fsl_tags.proofs.tags.Tags.in_force.Given as goal

abbrev pub ghosts-in_force_counted : goal.ghosts-in_force_counted
ghosts-in_force_counted a = record { name = a.blank.name; parts = a.blank.parts }
