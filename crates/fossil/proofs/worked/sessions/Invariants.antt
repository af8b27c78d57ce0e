use Rattle.std.proofs.Common.{◌≡◌, ◌≤◌, ◌*◌, take}
use Rattle.fsl_serve.specs.Crews.{sessions_of}
use Rattle.fossil.proofs.worked.sessions.Given as goal

-- the sum of those that were passed
abbrev pub invariant-loop-work : goal.invariant-loop-work
invariant-loop-work l = (l.sum ≡ sessions_of (take l.work-index l.works)) × (l.sum ≤ l.work-index * 65536)
