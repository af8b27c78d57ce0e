use Rattle.std.proofs.Common.{◌≡◌, ◌+◌, ◌-◌, ℕ, List, true, length}
use Rattle.std.specs.Prelude.{is_some}
use Rattle.std.specs.List.Sorted.{IsStrictlySortedBy}
use Rattle.fsl_order.specs.Names.{bytes_cmp, has}
use Rattle.fsl_table.specs.Contents.{value_at}
use Rattle.fsl_forum.specs.Reached.{IsReaching, extent}
use Rattle.fsl_forum.proofs.reached.reached.Given as goal

-- those that are seen lead to the root, and the followers of those that wait are still to be seen
abbrev pub invariant-loop-at : goal.invariant-loop-at
invariant-loop-at g l = record {
  reaching : IsReaching l.followers.held.entries l.fn.root l.seen.keys l.waiting.items;
  known : (q : List ℕ) → has l.seen.keys q ≡ true → is_some (value_at bytes_cmp q (extent l.fn.root l.followers.held.entries)) ≡ true;
  rising : IsStrictlySortedBy bytes_cmp l.seen.keys;
}

-- each name waits once at most, when it is seen first
abbrev pub decreases-loop-at : goal.decreases-loop-at
decreases-loop-at g l = length l.waiting.items + (1 + length l.followers.held.entries - length l.seen.keys)
