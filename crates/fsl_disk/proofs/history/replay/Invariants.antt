use Rattle.std.proofs.Common.{◌≡◌, take, reverse}
use Rattle.fsl_disk.specs.Change.{reads}
use Rattle.fsl_disk.proofs.history.replay.Given as goal

abbrev pub invariant-loop-change : goal.invariant-loop-change
invariant-loop-change l = l.bytes.items ≡ reads l.fn.bytes.items (reverse (take l.change-index l.changes))
