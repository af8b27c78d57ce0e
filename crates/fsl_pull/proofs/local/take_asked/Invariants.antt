use Rattle.std.proofs.Common.{◌≡◌, take}
use Rattle.fsl_pull.specs.Reading.{IsOnlyRead}
use Rattle.fsl_pull.proofs.LocalTaken.{TakenSoFar}
use Rattle.fsl_pull.proofs.local.take_asked.Given as goal

abbrev pub invariant-loop-name : goal.invariant-loop-name
invariant-loop-name g l = record {
  taken : TakenSoFar l.initial.peer.seen.state (take l.name-index l.asked) l.initial.repo.seen l.moved l.repo.seen;
  disk : l.repo.disk ≡ l.initial.repo.disk;
  state : l.peer.seen.state ≡ l.initial.peer.seen.state;
  only : IsOnlyRead g.P.Disk.state l.initial.peer l.peer;
}
