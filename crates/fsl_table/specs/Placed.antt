-- Keys of entries that may have one: the key tells the group to which the entry belongs and its place there, and the place its name.
use Rattle.std.specs.Prelude.{◌≡◌, ℕ, List, [], ◌∷◌, Bool, false, ◌&&◌, Option, Some, None, is_some, option_map}
use Rattle.std.specs.Option.{option_and_then}
use Rattle.std.specs.Ordering.{is_eq}
use Rattle.std.specs.declared.cmp.Ordering.{Ordering}
use Rattle.fsl_order.specs.Names.{bytes_cmp}
use Rattle.fsl_table.specs.Contents.{value_at, with_entry, without_key}
use Rattle.fsl_table.specs.Within.{within_cmp}
use Rattle.fsl_table.specs.declared.within.Within.{Within}

module _ {A B E : Type 0} (RA : A → A → Ordering) (RB : B → B → Ordering) (name_in : B → List ℕ) (key : List ℕ × E → Option (A × B)) where
  -- whether the key is there, and is this group and place
  abbrev pub is_key : Option (A × B) → A → B → Bool
  is_key None a b = false
  is_key (Some k) a b = is_eq (RA a k.0) && is_eq (RB b k.1)

  -- the key of the entry of a name
  abbrev pub key_at : List (List ℕ × E) → List ℕ → Option (A × B)
  key_at es name = option_and_then (λ e. key (name, e)) (value_at bytes_cmp name es)

  -- whether what may be a place is that of an entry of this group
  abbrev pub is_placed : List (List ℕ × E) → A → Option B → Bool
  is_placed es a None = false
  is_placed es a (Some b) = is_key (key_at es (name_in b)) a b

  -- there is a key exactly for each entry that has one
  abbrev pub ArePlaced : List (List ℕ × E) → List (Within A B × Unit {0}) → Type 0
  ArePlaced es ss = (k : Within A B) → is_some (value_at (within_cmp RA RB) k ss) ≡ is_placed es k.first k.second

  -- with the key of an entry, where it has one
  abbrev pub with_place : Option (A × B) → List (Within A B × Unit {0}) → List (Within A B × Unit {0})
  with_place None ss = ss
  with_place (Some k) ss = with_entry (within_cmp RA RB) (record { first = k.0; second = Some k.1 }) tt ss

  -- without it
  abbrev pub without_place : Option (A × B) → List (Within A B × Unit {0}) → List (Within A B × Unit {0})
  without_place None ss = ss
  without_place (Some k) ss = without_key (within_cmp RA RB) (record { first = k.0; second = Some k.1 }) ss

-- ---- items that entries may give, of one kind

-- what may be there before a list
abbrev pub put_item : {Y : Type 0} → Option Y → List Y → List Y
put_item None ys = ys
put_item (Some y) ys = y ∷ ys

-- the item of the entry of a name
abbrev pub item_at : {E Y : Type 0} → (List ℕ × E → Option Y) → List (List ℕ × E) → List ℕ → Option Y
item_at item_of es name = option_and_then (λ e. item_of (name, e)) (value_at bytes_cmp name es)

-- the items of the names in some places
abbrev pub items_at : {B E Y : Type 0} → (B → List ℕ) → (List ℕ × E → Option Y) → List (List ℕ × E) → List (B × Unit {0}) → List Y
items_at name_in item_of es [] = []
items_at name_in item_of es (p ∷ ps) = put_item (item_at item_of es (name_in p.0)) (items_at name_in item_of es ps)

-- the key of an item
abbrev pub key_of : {A B E Y : Type 0} → (List ℕ × E → Option Y) → (Y → A) → (Y → B) → List ℕ × E → Option (A × B)
key_of item_of group place e = option_map (λ y. (group y, place y)) (item_of e)
