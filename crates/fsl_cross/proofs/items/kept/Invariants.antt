use Rattle.std.proofs.Common.{◌≡◌, ◌++◌}
use Rattle.std.specs.Vec.Iter.{into_iter_items}
use Rattle.fsl_cross.proofs.items.kept.Given as goal

-- with the items that are left, those that are kept are the whole
abbrev pub invariant-loop-item : goal.invariant-loop-item
invariant-loop-item l = l.held.items ++ into_iter_items l.item-iterator ≡ l.fn.items
