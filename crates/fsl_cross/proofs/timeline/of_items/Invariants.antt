use Rattle.std.proofs.Common.{◌≡◌, ◌++◌}
use Rattle.std.specs.Prelude.{filter_map}
use Rattle.fsl_tags.specs.Gathered.{in_set}
use Rattle.fsl_cross.specs.Inside.{item_row_over}
use Rattle.fsl_cross.proofs.timeline.of_items.Given as goal

-- with what the items give that are left, the rows are the whole
abbrev pub invariant-loop-item : goal.invariant-loop-item
invariant-loop-item l =
    (goal.iterator-loop-item).can_next l.item-iterator × (goal.iterator-loop-item).is_finite l.item-iterator
    × (l.rows.items ++ filter_map (item_row_over l.tags.facts l.pages.facts l.threads.facts (in_set l.targets.tickets) (in_set l.targets.notes)) l.item-iterator
    ≡ filter_map (item_row_over l.tags.facts l.pages.facts l.threads.facts (in_set l.targets.tickets) (in_set l.targets.notes)) l.items)
