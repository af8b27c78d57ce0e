use Rattle.std.proofs.Common.{◌≡◌, ◌++◌, length, take}
use Rattle.std.specs.Prelude.{flat_map}
use Rattle.fsl_forum.specs.Threads.{thread}
use Rattle.fsl_query.specs.Lines.{thread_line}
use Rattle.fsl_query.proofs.threads.append_threads.Given as goal

-- the threads that were passed have their lines
abbrev pub invariant-loop-thread : goal.invariant-loop-thread
invariant-loop-thread l = l.into ≡ l.initial.into ++ flat_map (λ r. thread_line r (length (thread l.table.facts r.name))) (take l.thread-index l.threads)
