use Rattle.std.proofs.Common.{◌≡◌, None, length}
use Rattle.fsl_pull.specs.Pushes.{Sending, PushRound, push_start}
use Rattle.fsl_pull.specs.PushTurns.{Remembers}
use Rattle.fsl_pull.proofs.SyncLoop.{IsAt}
use Rattle.fsl_pull.proofs.pushing.push.Given as goal

abbrev pub invariant-loop-round : goal.invariant-loop-round
invariant-loop-round g l = record {
  at : IsAt g.D.Disk.state (PushRound l.login) (push_start l.initial.repo.seen.state) (λ (m : Sending). Remembers l.sent m l.gimmes) (g.N.Link.state l.initial.dial) (g.N.Link.state l.dial) l.initial.repo.disk l.repo.disk l.initial.repo.seen l.repo.seen 0 (length l.sent.order) l.round;
  counts : (g.N.Link.state l.dial).faults ≡ (g.N.Link.state l.initial.dial).faults;
  none : l.initial.repo.seen.state.stopped ≡ None;
  runs : l.repo.seen.state.stopped ≡ None;
}
