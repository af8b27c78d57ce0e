use Rattle.std.proofs.Common.{◌≡◌, ◌||◌, List, ℕ, drop}
use Rattle.std.specs.List.Sorted.{IsStrictlySortedBy}
use Rattle.std.specs.Map.{keys_of}
use Rattle.fsl_order.specs.Names.{bytes_cmp, has}
use Rattle.fsl_cluster.specs.Kept.{is_in}
use Rattle.fsl_cluster.proofs.build.enter_all.Given as goal

-- with those that are left, it is the whole
abbrev pub invariant-loop-name : goal.invariant-loop-name
invariant-loop-name g l = record {
  names : (q : List ℕ) → (has (drop l.name-index l.names) q || is_in l.set.entries q) ≡ (has l.names q || is_in l.fn.set.entries q);
  ordered : IsStrictlySortedBy bytes_cmp (keys_of l.set.entries);
}
