use Rattle.std.proofs.Common.{◌≡◌, ◌++◌}
use Rattle.fsl_cross.specs.Tables.{without}
use Rattle.fsl_cross.proofs.items.Items.without.Given as goal

-- with those of the items that are left, the others are the whole
abbrev pub invariant-loop-item : goal.invariant-loop-item
invariant-loop-item l =
    (goal.iterator-loop-item).can_next l.item-iterator × (goal.iterator-loop-item).is_finite l.item-iterator
    × (l.others.items ++ without l.name l.item-iterator ≡ without l.name l.self)
