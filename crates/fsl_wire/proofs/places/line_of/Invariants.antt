use Rattle.std.proofs.Common.{◌-◌, length}
use Rattle.fsl_wire.specs.Counts.{IsCountedTo}
use Rattle.fsl_wire.proofs.places.line_of.Given as goal

abbrev pub invariant-lines : goal.invariant-lines
invariant-lines l = IsCountedTo l.bytes l.line l.at l.left l.card

abbrev pub decreases-lines : goal.decreases-lines
decreases-lines l = length l.bytes - l.at
