use Rattle.fsl_cross.proofs.back.take_attached_back.Given as goal

abbrev pub ghosts-attached_back : goal.ghosts-attached_back
ghosts-attached_back a = record { name = a.blank.name; parts = a.blank.parts }
