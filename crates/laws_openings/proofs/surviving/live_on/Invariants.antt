use Rattle.std.proofs.Common.{take}
use Rattle.fsl_disk.specs.Disk.{IsModelled}
use Rattle.laws_openings.specs.Lives.{AreLives, SurvivesAll, does_of}
use Rattle.laws_openings.proofs.surviving.live_on.Given as goal

-- the disk is modelled as the first one, and lives of the works that were passed led to it, which it survived
abbrev pub invariant-loop-work : goal.invariant-loop-work
invariant-loop-work g l = record {
  modelled : IsModelled (g.D.Disk.state l.fn.disk) → IsModelled (g.D.Disk.state l.story.disk);
  lives : AreLives (λ d. g.D.Disk.state d) (does_of (λ w. g.W.Work.puts w) (λ w. g.W.Work.heard w)) l.fn.disk (take l.work-index l.works) l.story.lives.items l.story.disk;
  survives : SurvivesAll (λ w. g.W.Work.puts w) (take l.work-index l.works) l.story.lives.items (g.D.Disk.state l.fn.disk) (g.D.Disk.state l.story.disk);
}
