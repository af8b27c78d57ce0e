use Rattle.std.proofs.Common.{◌≡◌, ◌++◌}
use Rattle.std.specs.Prelude.{filter_map}
use Rattle.fsl_cross.specs.Facts.{files_fact}
use Rattle.fsl_cross.proofs.facts.files.of_items.Given as goal

-- with what the items give that are left, the facts are the whole
abbrev pub invariant-loop-item : goal.invariant-loop-item
invariant-loop-item l =
    (goal.iterator-loop-item).can_next l.item-iterator × (goal.iterator-loop-item).is_finite l.item-iterator
    × (l.facts.items ++ filter_map files_fact l.item-iterator ≡ filter_map files_fact l.items)
