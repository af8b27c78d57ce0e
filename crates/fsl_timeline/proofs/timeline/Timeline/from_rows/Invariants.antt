use Rattle.fsl_timeline.proofs.timeline.Timeline.from_rows.Given as goal

abbrev pub ghosts-from_counted : goal.ghosts-from_counted
ghosts-from_counted a = record { name = a.blank.name; parts = a.blank.parts }
