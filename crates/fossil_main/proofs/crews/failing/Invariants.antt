use Rattle.std.specs.Prelude.{◌≡◌, vec_len}
use Rattle.fossil_main.proofs.crews.failing.Given as goal

-- a crew for each worker so far
abbrev pub invariant-loop-worker : goal.invariant-loop-worker
invariant-loop-worker g l = vec_len l.crews ≡ l._worker
