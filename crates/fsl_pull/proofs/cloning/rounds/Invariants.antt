use Rattle.std.proofs.Common.{◌≡◌, ℕ, List, None}
use Rattle.fsl_disk.specs.Disk.{Keeps}
use Rattle.fsl_outside.specs.Connections.{LinkState}
use Rattle.fsl_http.specs.Responses.{Exchanged}
use Rattle.fsl_pull.specs.Rounds.{Round}
use Rattle.fsl_pull.specs.CloneTurns.{IsFirst}
use Rattle.fsl_pull.proofs.CloneLoop.{IsAt}
use Rattle.fsl_pull.proofs.cloning.rounds.Given as goal

abbrev pub invariant-loop-round : goal.invariant-loop-round
invariant-loop-round g l = record {
  at : (server : List ℕ) (fields : List (List ℕ)) (l0 : LinkState) (project : List ℕ) (r : Round (List ℕ) Exchanged) → IsFirst server fields l.login l0 (g.N.Link.state l.fn.dial) l.first project r l.fn.repo.seen
      → IsAt g.D.Disk.state server fields l.login project r l.fn.repo.seen.state.faults l.fn.repo.seen.state.honest l0 (g.N.Link.state l.dial) l.fn.repo.disk l.repo.disk l.repo.seen l.from l.round;
  counts : (g.N.Link.state l.dial).faults ≡ (g.N.Link.state l.fn.dial).faults;
  runs : l.repo.seen.state.stopped ≡ None;
  steady : l.repo.seen.state.faults ≡ l.fn.repo.seen.state.faults;
  keeps : Keeps (g.D.Disk.state l.fn.repo.disk) (g.D.Disk.state l.repo.disk);
}
