use Rattle.std.proofs.Common.{◌≡◌, None}
use Rattle.std.specs.List.Sorted.{IsStrictlySortedBy}
use Rattle.fsl_order.specs.Names.{bytes_cmp}
use Rattle.fsl_repo.specs.Machine.{now}
use Rattle.fsl_pull.specs.Calls.{MayBegin}
use Rattle.fsl_pull.specs.Reading.{IsOnlyRead}
use Rattle.fsl_pull.proofs.LocalEnds.{rounds_left}
use Rattle.fsl_pull.proofs.LocalSync.{LocalAt}
use Rattle.fsl_pull.proofs.local.pull_local.Given as goal

abbrev pub invariant-loop-number : goal.invariant-loop-number
invariant-loop-number g l = record {
  at : LocalAt g.D.Disk.state l.initial.peer.seen l.initial.repo.disk l.repo.disk l.initial.repo.seen l.repo.seen l.names l.round;
  may : MayBegin l.initial.repo.seen.state l.initial.peer.seen.state;
  runs : l.repo.seen.state.stopped ≡ None;
  rising : IsStrictlySortedBy bytes_cmp l.names;
  peer : l.peer.seen.state ≡ l.initial.peer.seen.state;
  only : IsOnlyRead g.P.Disk.state l.initial.peer l.peer;
}

abbrev pub decreases-loop-number : goal.decreases-loop-number
decreases-loop-number g l = rounds_left (now l.initial.peer.seen.state) l.repo.seen.state l.round
