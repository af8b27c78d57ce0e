-- An artifact that is found among others.
use Rattle.std.proofs.Common.{◌≡◌, ℕ, List, Option, Some, None, All, map, sym, ap, ◌∙◌}
use Rattle.std.specs.Prelude.{option_map}
use Rattle.std.specs.List.Sorted.{IsStrictlySortedBy}
use Rattle.std.proofs.lemmas.List.Elements.{recursion_from_All}
use Rattle.fsl_order.specs.Names.{bytes_cmp}
use Rattle.fsl_order.specs.Rows.{named}
use Rattle.fsl_order.proofs.RowLemmas.{named-All}
use Rattle.fsl_cross.specs.declared.Item.{Item}
use Rattle.fsl_cross.specs.Mixed.{IsIn}
use Rattle.fsl_cross.specs.Tables.{IsItem}
use Rattle.fsl_cross.proofs.Moved.{item_name}
use Rattle.fsl_cross.proofs.Mapped.{named-has}

module _ (items : List Item) (name : List ℕ) (item : Item) (found : named item_name items name ≡ Some item) where
  pub name-found : item.name ≡ name
  name-found = named-has item_name items name item found

  pub is-in : IsStrictlySortedBy bytes_cmp (map item_name items) → IsIn items item
  is-in rising = record { rising = rising; there = ap (named item_name items) name-found ∙ found }

  pub is-item : All IsItem items → IsItem item
  is-item all = named-All item_name IsItem items (recursion_from_All IsItem items all) name item found

  -- what is said of the item of the name
  pub said : {X : Type 0} (f : Item → X) (x : X) → option_map f (named item_name items name) ≡ Some x → f item ≡ x
  said f x h = inside (f item) x (sym (ap (option_map f) found) ∙ h)
    where
      inside : {X : Type 0} (a b : X) → Some a ≡ Some b → a ≡ b
      inside a b e = cc

pub not-none : {X : Type 0} (f : Item → X) (items : List Item) (name : List ℕ) (x : X) → named item_name items name ≡ None → option_map f (named item_name items name) ≡ Some x → ⊥
not-none f items name x none h = no (f) (named item_name items name) none h
  where
    no : {X : Type 0} {x : X} (f : Item → X) (o : Option Item) → o ≡ None → option_map f o ≡ Some x → ⊥
    no f None e h = cc
    no f (Some y) e h = cc
