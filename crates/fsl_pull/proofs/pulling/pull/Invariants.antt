use Rattle.std.proofs.Common.{◌≡◌, ℕ, List, None}
use Rattle.std.specs.List.Sorted.{IsStrictlySortedBy}
use Rattle.fsl_order.specs.Names.{bytes_cmp}
use Rattle.fsl_repo.specs.Whole.{stored}
use Rattle.fsl_pull.specs.Pulls.{PullRound}
use Rattle.fsl_pull.proofs.PullRuns.{from_here}
use Rattle.fsl_pull.proofs.SyncLoop.{IsAt}
use Rattle.fsl_pull.proofs.pulling.pull.Given as goal

abbrev pub invariant-loop-round : goal.invariant-loop-round
invariant-loop-round g l = record {
  at : IsAt g.D.Disk.state (PullRound l.login) (from_here l.initial.repo.seen) (λ (m : List (List ℕ)). m ≡ l.names) (g.N.Link.state l.initial.dial) (g.N.Link.state l.dial) l.initial.repo.disk l.repo.disk l.initial.repo.seen l.repo.seen (stored l.initial.repo.seen) (stored l.repo.seen) l.round;
  counts : (g.N.Link.state l.dial).faults ≡ (g.N.Link.state l.initial.dial).faults;
  none : l.initial.repo.seen.state.stopped ≡ None;
  runs : l.repo.seen.state.stopped ≡ None;
  rising : IsStrictlySortedBy bytes_cmp l.names;
}
