use Rattle.std.proofs.Common.{ℕ, Ok, take}
use Rattle.fsl_scrub.specs.Copying.{OnlyReads, WritesRecords, blobs_now}
use Rattle.fsl_scrub.proofs.scrubbing.append_blobs.Given as goal

abbrev pub invariant-loop-placed : goal.invariant-loop-placed
invariant-loop-placed g l =
    OnlyReads {X = ℕ} (g.D.Disk.state l.initial.repo.disk) (g.D.Disk.state l.repo.disk) l.initial.repo l.repo (Ok l.end)
    × WritesRecords l.initial.repo.seen.state (blobs_now l.initial.repo.seen.state (take l.placed-index l.names)) l.fn.at (g.P.Disk.state l.initial.spare) (g.P.Disk.state l.spare) (Ok l.end)
