-- Items added one after another.
use Rattle.std.proofs.Common.{◌≡◌, ℕ, true, false, cond, List, [], ◌∷◌, Option, Some, None, map, refl, sym, ap, ◌∙◌}
use Rattle.std.specs.Prelude.{is_some}
use Rattle.std.specs.Str.{bytes_eq}
use Rattle.std.specs.Cmp.Lexicographic.{bytes_decides}
use Rattle.fsl_order.specs.Rows.{by_name, named, AreDistinct}
use Rattle.fsl_order.proofs.RowLemmas.{is_some-named}
use Rattle.fsl_order.proofs.NamedLemmas.{named-by_name}
use Rattle.fsl_table.proofs.Facts.{absent_before, distinct_rear}
use Rattle.fsl_cross.specs.declared.Item.{Item}
use Rattle.fsl_cross.specs.Tables.{added, with_item, item_set}
use Rattle.fsl_cross.proofs.Moved.{item_name}
use Rattle.fsl_cross.proofs.Sets.{by_name-found}

-- the first, where it is there, else the second
abbrev either : Option Item → Option Item → Option Item
either None b = b
either (Some x) b = Some x

none : (o : Option Item) → is_some o ≡ false → o ≡ None
none None e = refl
none (Some x) e = cc

later : (x : Item) (xs : List Item) → AreDistinct (map item_name (x ∷ xs)) → named item_name xs x.name ≡ None
later x xs d =
    none (named item_name xs x.name) (ap is_some (sym (named-by_name item_name xs x.name)) ∙ is_some-named item_name (by_name item_name xs) x.name ∙ absent_before item_name x xs d)

-- what is found after some items are added
named-added : (set xs : List Item) → AreDistinct (map item_name xs) → (q : List ℕ) → named item_name (added set xs) q ≡ either (named item_name xs q) (named item_name set q)
named-added set [] d q = refl
named-added set (x ∷ xs) d q =
    named-added (with_item x set) xs (distinct_rear item_name (x ∷ []) xs d) q
    ∙ ap (either (named item_name xs q)) (named-by_name item_name (x ∷ set) q)
    ∙ elim (bytes_eq x.name q) as (λ b. bytes_eq x.name q ≡ b → either (named item_name xs q) (cond b (Some x) (named item_name set q)) ≡ either (cond b (Some x) (named item_name xs q)) (named item_name set q)) [
      | true ↦ λ t. ap (λ o. either o (Some x)) (sym (ap (named item_name xs) ((bytes_decides x.name q).0 t)) ∙ later x xs d)
      | false ↦ λ t. refl
    ] refl

-- adding keeps the items by name
by_name-added : (set xs : List Item) → by_name item_name set ≡ set → by_name item_name (added set xs) ≡ added set xs
by_name-added set [] h = h
by_name-added set (x ∷ xs) h = by_name-added (with_item x set) xs (by_name-found item_name (by_name item_name (x ∷ set)) (x ∷ set) (λ q. named-by_name item_name (x ∷ set) q))

either-none : (o : Option Item) → either o None ≡ o
either-none None = refl
either-none (Some x) = refl

pub added-built : (xs : List Item) → AreDistinct (map item_name xs) → added [] xs ≡ item_set xs
added-built xs d =
    sym (by_name-added [] xs refl) ∙ by_name-found item_name (added [] xs) xs (λ q. named-added [] xs d q ∙ either-none (named item_name xs q))
