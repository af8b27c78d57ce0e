use Rattle.fsl_timeline.proofs.timeline.Timeline.latest.Given as goal

abbrev pub ghosts-latest_counted : goal.ghosts-latest_counted
ghosts-latest_counted a = record { name = a.blank.name; parts = a.blank.parts }
