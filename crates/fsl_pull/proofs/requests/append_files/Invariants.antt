use Rattle.std.proofs.Common.{◌≡◌, take}
use Rattle.fsl_pull.specs.Reading.{IsOnlyRead}
use Rattle.fsl_pull.specs.Reads.{ArePut}
use Rattle.fsl_pull.proofs.requests.append_files.Given as goal

abbrev pub invariant-loop-name : goal.invariant-loop-name
invariant-loop-name g l = record {
  into : ArePut l.initial.repo.seen.state (take l.name-index l.names) l.initial.into l.into;
  state : l.repo.seen.state ≡ l.initial.repo.seen.state;
  only : IsOnlyRead g.D.Disk.state l.initial.repo l.repo;
}
