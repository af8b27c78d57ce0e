use Rattle.std.proofs.Common.{◌≡◌, ◌+◌, ◌≤◌, ◌&&◌, not, drop, length, is_some}
use Rattle.std.specs.List.Sorted.{IsStrictlySortedBy}
use Rattle.std.specs.Map.{keys_of}
use Rattle.fsl_order.specs.Names.{has}
use Rattle.fsl_table.specs.Exact.{pair_cmp}
use Rattle.fsl_table.specs.declared.key.Pair.{Pair}
use Rattle.fsl_table.specs.Contents.{Contents, value_at}
use Rattle.fsl_table.specs.Undo.{Undoes}
use Rattle.fsl_table.specs.Pairs.{is_name}
use Rattle.fsl_table.proofs.pairs.unlink_each.Given as goal

-- without those that are left, it is the whole, and the log leads back
abbrev pub invariant-loop-first : goal.invariant-loop-first
invariant-loop-first g l = record {
  pairs : (k : Pair) → (not (is_name k.second l.second && has (drop l.first-index l.firsts) k.first) && is_some (value_at pair_cmp k l.pairs.entries)) ≡ (not (is_name k.second l.second && has l.firsts k.first) && is_some (value_at pair_cmp k l.fn.pairs.entries));
  ordered : IsStrictlySortedBy pair_cmp (keys_of l.pairs.entries);
  undoes : (before : Contents Pair (Unit {0})) → Undoes pair_cmp l.fn.log l.fn.pairs before → Undoes pair_cmp l.log l.pairs before;
  cost : l.steps ≤ l.fn.steps + l.first-index;
  logged : length l.log ≤ length l.fn.log + l.first-index;
  within : l.first-index ≤ length l.firsts;
}
