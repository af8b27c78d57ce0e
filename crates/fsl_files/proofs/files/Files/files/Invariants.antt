use Rattle.fsl_files.proofs.files.Files.files.Given as goal

abbrev pub ghosts-files_counted : goal.ghosts-files_counted
ghosts-files_counted a = record { name = a.blank.name; parts = a.blank.parts }
