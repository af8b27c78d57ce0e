use Rattle.std.proofs.Common.{◌≡◌, take}
use Rattle.std.specs.List.{AllZip}
use Rattle.fsl_repo.specs.Machine.{now}
use Rattle.fsl_checkin.specs.Reads.{IsOnlyRead, IsReadFile}
use Rattle.fsl_checkin.proofs.exporting.filled.Given as goal

abbrev pub invariant-loop-file : goal.invariant-loop-file
invariant-loop-file g l = record {
  items : AllZip (IsReadFile l.initial.repo.seen.state.honest (now l.initial.repo.seen.state).held) (take l.file-index l.files) l.items;
  state : l.repo.seen.state ≡ l.initial.repo.seen.state;
  only : IsOnlyRead g.D.Disk.state l.initial.repo l.repo;
}
