use Rattle.std.proofs.Common.{◌≡◌, length}
use Rattle.fsl_disk.specs.Disk.{IsModelled}
use Rattle.fsl_journal.specs.Log.{WhereBetween}
use Rattle.laws_openings.specs.Chain.{AreBetween}
use Rattle.laws_openings.specs.Openings.{AreOpenings}
use Rattle.laws_openings.proofs.reopening.reopen.Given as goal

-- so many openings led to the disk, which is modelled as the first one, and each of its images stands between the lists that the first one's stand between
abbrev pub invariant-loop-count : goal.invariant-loop-count
invariant-loop-count g l = record {
  each : length l.all.openings.items ≡ l.count;
  openings : AreOpenings (λ d. g.D.Disk.state d) l.fn.disk l.all.openings.items l.all.disk;
  modelled : IsModelled (g.D.Disk.state l.fn.disk) → IsModelled (g.D.Disk.state l.all.disk);
  between : WhereBetween (g.D.Disk.state l.fn.disk) (λ low high. AreBetween low high (g.D.Disk.state l.all.disk).images);
}
