use Rattle.std.proofs.Common.{◌≡◌, ℕ, List, Option, cond, map, take}
use Rattle.std.specs.List.{AllByRecursion}
use Rattle.std.specs.List.Sorted.{IsStrictlySortedBy}
use Rattle.std.specs.Map.{keys_of}
use Rattle.fsl_order.specs.Names.{has}
use Rattle.fsl_table.specs.Exact.{pair_cmp}
use Rattle.fsl_forum.specs.Held.{AreOf}
use Rattle.fsl_forum.specs.Rows.{row_in, place_of, differing}
use Rattle.fsl_forum.proofs.rows.move_each.Given as goal

-- those that were passed stand where they are to be
abbrev pub invariant-loop-one : goal.invariant-loop-one
invariant-loop-one g l = record {
  ordered : IsStrictlySortedBy pair_cmp (keys_of l.placed.held.entries);
  placed : (first : List ℕ → Option (List ℕ)) → AreOf first l.fn.placed.held.entries → AllByRecursion (λ n. first n.name ≡ place_of n.row) l.noted
      → AreOf (λ x. cond (has (map (λ n. n.name) (take l.one-index l.noted)) x) (place_of (row_in l.posts.held.entries l.ends.held.entries x)) (first x)) l.placed.held.entries;
  changed : l.changed ≡ differing (row_in l.posts.held.entries l.ends.held.entries) (take l.one-index l.noted);
  was : l.placed.was ≡ l.fn.placed.was;
}
