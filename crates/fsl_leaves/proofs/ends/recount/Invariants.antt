use Rattle.std.proofs.Common.{◌≡◌, if◌then◌else◌, List, ℕ, drop, is_some}
use Rattle.std.specs.List.Sorted.{IsStrictlySortedBy}
use Rattle.std.specs.Map.{keys_of}
use Rattle.fsl_order.specs.Names.{bytes_cmp, has}
use Rattle.fsl_table.specs.Contents.{value_at}
use Rattle.fsl_leaves.specs.Kept.{counted, StayFlipped}
use Rattle.fsl_leaves.proofs.ends.recount.Given as goal

-- with those that are left, it is the whole
abbrev pub invariant-loop-name : goal.invariant-loop-name
invariant-loop-name g l = record {
  leaves : (q : List ℕ) → (if has (drop l.name-index l.names) q then counted l.facts.held.entries l.children.held.entries q else is_some (value_at bytes_cmp q l.leaves.held.entries)) ≡ (if has l.names q then counted l.facts.held.entries l.children.held.entries q else is_some (value_at bytes_cmp q l.fn.leaves.held.entries));
  flips : StayFlipped l.fn.changed.keys l.fn.leaves.held l.changed.keys l.leaves.held;
  ordered : IsStrictlySortedBy bytes_cmp (keys_of l.leaves.held.entries);
  was : l.leaves.was ≡ l.fn.leaves.was;
}
