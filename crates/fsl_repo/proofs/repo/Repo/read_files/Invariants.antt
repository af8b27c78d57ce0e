use Rattle.std.proofs.Common.{◌≡◌, take}
use Rattle.std.specs.List.{AllZip}
use Rattle.fsl_disk.specs.Disk.{Quiet}
use Rattle.fsl_repo.specs.Sending.{IsReadFile}
use Rattle.fsl_repo.proofs.repo.Repo.read_files.Given as goal

-- the files are read so far, and nothing has changed
abbrev pub invariant-loop-file : goal.invariant-loop-file
invariant-loop-file g l = record {
  read : AllZip (IsReadFile l.initial.self.seen.state) (take l.file-index l.due) l.files.items;
  state : l.self.seen.state ≡ l.initial.self.seen.state;
  items : l.self.seen.items ≡ l.initial.self.seen.items;
  loaded : l.self.seen.loaded ≡ l.initial.self.seen.loaded;
  quiet : Quiet (g.D.Disk.state l.initial.self.disk) (g.D.Disk.state l.self.disk);
}
