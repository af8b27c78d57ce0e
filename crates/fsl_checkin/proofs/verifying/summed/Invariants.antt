use Rattle.std.proofs.Common.{◌≡◌, List, take}
use Rattle.std.specs.Prelude.{flat_map}
use Rattle.std.specs.List.{AllZip}
use Rattle.md5.specs.Md5.{Holds}
use Rattle.fsl_repo.specs.Machine.{now}
use Rattle.fsl_checkin.specs.declared.types.TreeItem.{TreeItem}
use Rattle.fsl_checkin.specs.Reads.{IsOnlyRead, IsReadFile}
use Rattle.fsl_checkin.specs.Sums.{summed_file}
use Rattle.fsl_checkin.proofs.verifying.summed.Given as goal

abbrev pub invariant-loop-file : goal.invariant-loop-file
invariant-loop-file g l = record {
  taken : (items : List TreeItem) × AllZip (IsReadFile l.initial.repo.seen.state.honest (now l.initial.repo.seen.state).held) (take l.file-index l.files) items × Holds l.hasher (flat_map summed_file items);
  state : l.repo.seen.state ≡ l.initial.repo.seen.state;
  only : IsOnlyRead g.D.Disk.state l.initial.repo l.repo;
}
