use Rattle.fsl_forum.proofs.threads.Threads.undo.Given as goal

abbrev pub ghosts-take_back : goal.ghosts-take_back
ghosts-take_back a = record { name = a.blank.name; parts = a.blank.parts }
