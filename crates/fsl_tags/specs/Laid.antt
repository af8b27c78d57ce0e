-- How the tables hold facts and rows.
use Rattle.std.specs.Prelude.{◌≡◌, ℕ, List, [], ◌∷◌, Option, Some, None, map, is_some, option_and_then, unwrap_or, length}
use Rattle.std.specs.List.Sorted.{IsStrictlySortedBy}
use Rattle.std.specs.Map.{keys_of, lookup}
use Rattle.std.specs.BTreeMap.{is_at}
use Rattle.fsl_order.specs.Names.{bytes_cmp}
use Rattle.fsl_table.specs.Exact.{pair_cmp}
use Rattle.fsl_table.specs.declared.key.Pair.{Pair}
use Rattle.fsl_table.specs.Contents.{value_at}
use Rattle.fsl_table.specs.Pairs.{is_name}
use Rattle.fsl_tags.specs.declared.Assertion.{Assertion}
use Rattle.fsl_tags.specs.declared.node.Node.{Node}
use Rattle.fsl_tags.specs.Climbed.{climbed}

-- the tags strictly rise
abbrev pub Rises : List Assertion → Type 0
Rises row = IsStrictlySortedBy bytes_cmp (map (λ a. a.tag) row)

-- the row of a name, where it has one
abbrev pub row_in : List (List ℕ × List Assertion) → List ℕ → List Assertion
row_in es x = unwrap_or (value_at bytes_cmp x es) []

-- a row that is there, unless it is empty
abbrev pub filled : List Assertion → Option (List Assertion)
filled [] = None
filled (a ∷ as_) = Some (a ∷ as_)

-- rows in order, none of them empty
pub record AreFull (es : List (List ℕ × List Assertion)) : Type 0 where
  pub ordered : IsStrictlySortedBy bytes_cmp (keys_of es)
  pub full : (x : List ℕ) → value_at bytes_cmp x es ≡ filled (row_in es x)

-- the primary parent
abbrev pub parent_in : List (List ℕ × Node) → List ℕ → Option (List ℕ)
parent_in facts x = option_and_then (λ n. n.parent) (value_at bytes_cmp x facts)

-- the row of a name by as many steps up as there are facts
abbrev pub settled : List (List ℕ × Node) → List (List ℕ × List Assertion) → List ℕ → List Assertion
settled facts own x = climbed (parent_in facts) (row_in own) (length facts) x

-- there is a pair exactly for each child and its primary parent, and the own rows rise
pub record AreLaid (facts : List (List ℕ × Node)) (children : List (Pair × Unit {0})) (own : List (List ℕ × List Assertion)) : Type 0 where
  pub ordered : IsStrictlySortedBy pair_cmp (keys_of children)
  pub pairs : (k : Pair) → is_some (value_at pair_cmp k children) ≡ is_name (option_and_then (parent_in facts) k.second) k.first
  pub rise : (x : List ℕ) → Rises (row_in own x)

-- what is noted of a name: its row as it was before, where it may have changed
abbrev pub IsNote : List Assertion → List Assertion → Option (List Assertion) → Type 0
IsNote before now None = now ≡ before
IsNote before now (Some row) = row ≡ before

abbrev pub AreNoted : (List ℕ → List Assertion) → List (List ℕ × List Assertion) → List (List ℕ × List Assertion) → Type 0
AreNoted before noted rows = (x : List ℕ) → IsNote (before x) (row_in rows x) (lookup (is_at (bytes_cmp x)) noted)

-- all tables are as the facts and the own rows say
pub record AreRight (facts : List (List ℕ × Node)) (children : List (Pair × Unit {0})) (own rows : List (List ℕ × List Assertion)) : Type 0 where
  pub laid : AreLaid facts children own
  pub own_full : AreFull own
  pub full : AreFull rows
  pub right : (x : List ℕ) → row_in rows x ≡ settled facts own x
