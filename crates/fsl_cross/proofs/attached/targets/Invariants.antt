use Rattle.std.proofs.Common.{◌≡◌}
use Rattle.std.specs.Prelude.{◌||◌, is_some, filter_map}
use Rattle.std.specs.List.{list_any}
use Rattle.fsl_table.specs.Contents.{value_at}
use Rattle.fsl_table.specs.Exact.{pair_cmp}
use Rattle.fsl_table.specs.declared.key.Pair.{Pair}
use Rattle.fsl_cross.specs.Attached.{target_pair, is_pair, AreOrdered}
use Rattle.fsl_cross.proofs.attached.targets.Given as goal

-- with the pairs of the items that are left, these are the whole
abbrev pub invariant-loop-item : goal.invariant-loop-item
invariant-loop-item g l =
    (goal.iterator-loop-item g).can_next l.item-iterator × (goal.iterator-loop-item g).is_finite l.item-iterator
    × AreOrdered l.pairs.entries
    × ((k : Pair) → (is_some (value_at pair_cmp k l.pairs.entries) || list_any (is_pair k) (filter_map target_pair l.item-iterator)) ≡ list_any (is_pair k) (filter_map target_pair l.items))
