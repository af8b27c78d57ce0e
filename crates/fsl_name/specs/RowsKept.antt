-- What an ordered map of rows keeps.
use Rattle.std.specs.Prelude.{◌≡◌, ℕ, List}
use Rattle.std.specs.List.{AllByRecursion}
use Rattle.std.specs.List.Sorted.{IsStrictlySortedBy}
use Rattle.std.specs.Map.{keys_of}
use Rattle.fsl_order.specs.Names.{bytes_cmp}

-- the keys strictly rise, and each is the name of its row
pub record IsKept {X : Type 0} (name : X → List ℕ) (entries : List (List ℕ × X)) : Type 0 where
  pub rising : IsStrictlySortedBy bytes_cmp (keys_of entries)
  pub named : AllByRecursion (λ e. e.0 ≡ name e.1) entries
