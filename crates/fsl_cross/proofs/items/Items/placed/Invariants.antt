use Rattle.std.proofs.Common.{◌≡◌, ◌++◌, List, map, vec_len}
use Rattle.std.specs.List.Sorted.{IsStrictlySortedBy}
use Rattle.fsl_order.specs.Names.{bytes_cmp}
use Rattle.fsl_order.specs.Rows.{by_name}
use Rattle.fsl_cross.specs.declared.Item.{Item}
use Rattle.fsl_cross.proofs.Moved.{item_name}
use Rattle.fsl_cross.proofs.items.Items.placed.Given as goal

-- those behind the ones that are left are in the set
abbrev pub invariant-loop-item : goal.invariant-loop-item
invariant-loop-item l = record {
  done : (done : List Item) × (l.left.items ++ done ≡ l.fn.items.items) × (l.set ≡ by_name item_name done);
  rising : IsStrictlySortedBy bytes_cmp (map item_name l.set);
}

abbrev pub decreases-loop-item : goal.decreases-loop-item
decreases-loop-item l = vec_len l.left
