use Rattle.std.proofs.Common.{take}
use Rattle.std.specs.Prelude.{flat_map}
use Rattle.md5.specs.Md5.{Holds}
use Rattle.fsl_checkin.specs.Sums.{summed_file}
use Rattle.fsl_checkin.proofs.sums.take_items.Given as goal

abbrev pub invariant-loop-item : goal.invariant-loop-item
invariant-loop-item l = Holds l.hasher (flat_map summed_file (take l.item-index l.items))
