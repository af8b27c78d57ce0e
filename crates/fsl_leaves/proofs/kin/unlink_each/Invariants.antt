use Rattle.std.proofs.Common.{◌≡◌, ◌+◌, ◌≤◌, ◌&&◌, not, drop, length, is_some}
use Rattle.std.specs.List.Sorted.{IsStrictlySortedBy}
use Rattle.std.specs.Map.{keys_of}
use Rattle.fsl_table.specs.Contents.{value_at}
use Rattle.fsl_leaves.specs.Keys.{Kin, kin_cmp, is_kin}
use Rattle.fsl_leaves.proofs.kin.unlink_each.Given as goal

-- with those that are left, it is the whole
abbrev pub invariant-loop-parent : goal.invariant-loop-parent
invariant-loop-parent g l = record {
  pairs : (k : Kin) → (not (is_kin l.child (drop l.parent-index l.parents) l.branch k) && is_some (value_at kin_cmp k l.children.held.entries)) ≡ (not (is_kin l.child l.parents l.branch k) && is_some (value_at kin_cmp k l.fn.children.held.entries));
  ordered : IsStrictlySortedBy kin_cmp (keys_of l.children.held.entries);
  was : l.children.was ≡ l.fn.children.was;
  cost : l.steps ≤ l.fn.steps + l.parent-index;
  back : l.children.back ≤ l.fn.children.back + l.parent-index;
  within : l.parent-index ≤ length l.parents;
}
