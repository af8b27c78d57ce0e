use Rattle.fsl_forum.proofs.threads.Threads.place.Given as goal

abbrev pub ghosts-place_counted : goal.ghosts-place_counted
ghosts-place_counted a = record { name = a.blank.name; parts = a.blank.parts }
