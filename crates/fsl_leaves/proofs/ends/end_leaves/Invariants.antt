use Rattle.std.proofs.Common.{◌≡◌, ◌+◌, ◌*◌, ◌≤◌, ◌&&◌, not, List, ℕ, drop, length, is_some}
use Rattle.std.specs.List.Sorted.{IsStrictlySortedBy}
use Rattle.std.specs.Map.{keys_of}
use Rattle.fsl_order.specs.Names.{bytes_cmp, has}
use Rattle.fsl_table.specs.Contents.{value_at}
use Rattle.fsl_leaves.specs.Kept.{is_in, StayFlipped}
use Rattle.fsl_leaves.proofs.ends.end_leaves.Given as goal

-- with those that are left, it is the whole
abbrev pub invariant-loop-parent : goal.invariant-loop-parent
invariant-loop-parent g l = record {
  leaves : (q : List ℕ) → (is_some (value_at bytes_cmp q l.leaves.held.entries) && not (has (drop l.parent-index l.parents) q && is_in (value_at bytes_cmp q l.facts.held.entries) l.branch)) ≡ (is_some (value_at bytes_cmp q l.fn.leaves.held.entries) && not (has l.parents q && is_in (value_at bytes_cmp q l.facts.held.entries) l.branch));
  flips : StayFlipped l.fn.changed.keys l.fn.leaves.held l.changed.keys l.leaves.held;
  ordered : IsStrictlySortedBy bytes_cmp (keys_of l.leaves.held.entries);
  was : l.leaves.was ≡ l.fn.leaves.was;
  cost : l.steps ≤ l.fn.steps + 3 * l.parent-index;
  back : l.leaves.back ≤ l.fn.leaves.back + l.parent-index;
  within : l.parent-index ≤ length l.parents;
}
