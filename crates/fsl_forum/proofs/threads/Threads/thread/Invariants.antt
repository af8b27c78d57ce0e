use Rattle.fsl_forum.proofs.threads.Threads.thread.Given as goal

abbrev pub ghosts-thread_counted : goal.ghosts-thread_counted
ghosts-thread_counted a = record { name = a.blank.name; parts = a.blank.parts }
