use Rattle.fsl_pull.proofs.taking.take_file.Given as goal

abbrev pub ghosts-arrive_counted : goal.ghosts-arrive_counted
ghosts-arrive_counted g a = record { name = a.blank.name; parts = a.blank.parts }
