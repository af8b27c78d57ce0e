use Rattle.std.proofs.Common.{◌≡◌, ◌&&◌, not, List, ℕ, drop}
use Rattle.std.specs.List.Sorted.{IsStrictlySortedBy}
use Rattle.std.specs.Map.{keys_of}
use Rattle.fsl_order.specs.Names.{bytes_cmp, has}
use Rattle.fsl_cluster.specs.Kept.{StayTurned, is_in, is_named}
use Rattle.fsl_cluster.proofs.sets.take_unnamed.Given as goal

-- with those that are left, it is the whole
abbrev pub invariant-loop-one : goal.invariant-loop-one
invariant-loop-one g l = record {
  names : (q : List ℕ) → (is_in l.names.held.entries q && not (has (drop l.one-index l.some) q && not (is_named l.pairs.held.entries q))) ≡ (is_in l.fn.names.held.entries q && not (has l.some q && not (is_named l.pairs.held.entries q)));
  turned : StayTurned l.fn.turned.keys l.fn.names.held l.turned.keys l.names.held;
  ordered : IsStrictlySortedBy bytes_cmp (keys_of l.names.held.entries);
  was : l.names.was ≡ l.fn.names.was;
}
