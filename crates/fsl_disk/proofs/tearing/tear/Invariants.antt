use Rattle.std.proofs.Common.{take, reverse}
use Rattle.fsl_disk.specs.History.{Wears}
use Rattle.fsl_disk.proofs.tearing.tear.Given as goal

abbrev pub invariant-loop-change : goal.invariant-loop-change
invariant-loop-change l = Wears (reverse (take l.change-index l.changes)) l.fn.image.items l.image.items
