-- What each table keeps: room for all of its entries beside the tree, and no key twice.
use Rattle.std.specs.Prelude.{ℕ, ◌+◌, ◌≤◌, List, length}
use Rattle.std.specs.declared.cmp.Ordering.{Ordering}
use Rattle.std.specs.List.Sorted.{IsStrictlySortedBy}
use Rattle.std.specs.Map.{keys_of}
use Rattle.fsl_table.specs.Weave.{IsApart}

pub record IsKept {K X : Type 0} (cmp : K → K → Ordering) (room : ℕ) (waiting tree : List (K × X)) : Type 0 where
  pub fits : length tree + length waiting ≤ room
  pub ordered : IsStrictlySortedBy cmp (keys_of tree)
  pub apart : IsApart cmp waiting tree
