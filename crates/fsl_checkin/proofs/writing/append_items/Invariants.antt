use Rattle.std.proofs.Common.{◌≡◌, ◌++◌, take}
use Rattle.fsl_checkin.specs.Trees.{tree_text}
use Rattle.fsl_checkin.proofs.writing.append_items.Given as goal

abbrev pub invariant-loop-item : goal.invariant-loop-item
invariant-loop-item l = l.into ≡ l.initial.into ++ tree_text (take l.item-index l.items)
