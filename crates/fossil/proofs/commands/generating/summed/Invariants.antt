use Rattle.fossil.proofs.commands.generating.summed.Given as goal

abbrev pub ghosts-add_texts : goal.ghosts-add_texts
ghosts-add_texts a = record { name = a.blank.name; parts = a.blank.parts }
