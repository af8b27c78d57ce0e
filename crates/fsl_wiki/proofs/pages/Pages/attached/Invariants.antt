use Rattle.fsl_wiki.proofs.pages.Pages.attached.Given as goal

abbrev pub ghosts-attached_counted : goal.ghosts-attached_counted
ghosts-attached_counted a = record { name = a.blank.name; parts = a.blank.parts }
