use Rattle.fsl_wiki.proofs.pages.Pages.history.Given as goal

abbrev pub ghosts-history_counted : goal.ghosts-history_counted
ghosts-history_counted a = record { name = a.blank.name; parts = a.blank.parts }
