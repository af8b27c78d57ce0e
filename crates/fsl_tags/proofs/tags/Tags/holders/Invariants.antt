use Rattle.fsl_tags.proofs.tags.Tags.holders.Given as goal

abbrev pub ghosts-holders_counted : goal.ghosts-holders_counted
ghosts-holders_counted a = record { name = a.blank.name; parts = a.blank.parts }
