use Rattle.std.proofs.Common.{◌≡◌, ◌-◌, List}
use Rattle.fsl_disk.specs.Disk.{Quiet}
use Rattle.fsl_record.specs.declared.Record.{Record}
use Rattle.fsl_journal.specs.Reading.{AreSoFar, HasTaken, Holds}
use Rattle.fsl_journal.proofs.reading.read_groups.Given as goal

abbrev pub invariant-groups : goal.invariant-groups
invariant-groups g l =
    let s0 = g.D.Disk.state l.initial.disk in
    let s = g.D.Disk.state l.disk in (groups : List (List Record))
    × AreSoFar groups l.initial.window.len l.found s0 × Quiet s0 s × (s.faults ≡ s0.faults) × HasTaken l.found (g.T.Taker.taken l.taker) (g.T.Taker.starts l.taker) × g.T.Taker.is_sound l.taker × Holds l.window s × (l.window.len ≡ l.initial.window.len)

abbrev pub decreases-groups : goal.decreases-groups
decreases-groups g l = l.initial.window.len - l.found.place
