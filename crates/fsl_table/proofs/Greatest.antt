-- The first of items in the falling order of their keys is the greatest of them.
use Rattle.std.specs.Prelude.{IfSome}
use Rattle.std.proofs.Common.{◌≡◌, List, [], ◌∷◌, true, false, if◌then◌else◌, Option, Some, None, refl, ap, ◌∙◌}
use Rattle.std.specs.List.{AllByRecursion}
use Rattle.std.specs.Ordering.{is_lt, ordering_reverse, on}
use Rattle.std.specs.Cmp.{IsTotalOrder}
use Rattle.std.specs.FinMap.{put}
use Rattle.std.specs.FinMap.Entries.{by_order}
use Rattle.std.specs.declared.cmp.Ordering.{Ordering}
use Rattle.std.specs.declared.cmp.Ordering.TheVariants.{Less, Equal, Greater}
use Rattle.fsl_order.specs.Rows.{keyed, greater, greatest}
use Rattle.fsl_table.specs.Contents.{first_of}

module _ {K X : Type 0} (R : K → K → Ordering) (o : IsTotalOrder R) (key : X → K) where
  -- the falling order
  abbrev pub falling : K → K → Ordering
  falling a b = R b a

  -- no two keys tie
  abbrev pub AreApart : List X → Type 0
  AreApart [] = Unit {0}
  AreApart (x ∷ xs) = AllByRecursion (λ y. R (key x) (key y) ≡ Equal → ⊥) xs × AreApart xs

  -- the entry that stands first once one more is put
  abbrev front : K × X → Option (K × X) → Option (K × X)
  front e None = Some e
  front e (Some h) = Some (by_order (R h.0 e.0) e (h.0, e.1) h)

  first_put : (k : K) (x : X) (es : List (K × X)) → first_of (put falling k x es) ≡ front (k, x) (first_of es)
  first_put k x [] = refl
  first_put k x (e ∷ es) =
      elim (R e.0 k) as (λ r. first_of (by_order r ((k, x) ∷ e ∷ es) ((e.0, x) ∷ es) (e ∷ put falling k x es)) ≡ Some (by_order r (k, x) (e.0, x) e)) [ Less ↦ refl | Equal ↦ refl | Greater ↦ refl ]

  -- what holds of each item holds of the greatest
  holds : (P : X → Type 0) (xs : List X) → AllByRecursion P xs → IfSome (greatest (on key R) xs) P
  holds P [] h = tt
  holds P (x ∷ xs) h = by (greatest (on key R) xs) (holds P xs h.1)
    where
      by : (g : Option X) → IfSome g P → IfSome (greater (on key R) (Some x) g) P
      by None p = h.0
      by (Some y) p = elim (is_lt (R (key x) (key y))) as (λ b. P (if b then y else x)) [ true ↦ p | false ↦ h.0 ]

  -- the entry of what may be there
  abbrev pub entry : Option X → Option (K × X)
  entry None = None
  entry (Some x) = Some (key x, x)

  step : (x : X) (g : Option X) → IfSome g (λ y. R (key x) (key y) ≡ Equal → ⊥) → front (key x, x) (entry g) ≡ entry (greater (on key R) (Some x) g)
  step x None h = refl
  step x (Some y) h =
      ap (λ r. Some (by_order r (key x, x) (key y, x) (key y, y))) (o.antisymm (key y) (key x))
      ∙ elim (R (key x) (key y)) as (λ r. (r ≡ Equal → ⊥) → Some (by_order (ordering_reverse r) (key x, x) (key y, x) (key y, y)) ≡ entry (Some (if is_lt r then y else x))) [
        | Less ↦ λ n. refl
        | Equal ↦ λ n. absurd (n refl)
        | Greater ↦ λ n. refl
      ] h

  pub first_greatest : (xs : List X) → AreApart xs → first_of (keyed falling key xs) ≡ entry (greatest (on key R) xs)
  first_greatest [] h = refl
  first_greatest (x ∷ xs) h =
      first_put (key x) x (keyed falling key xs) ∙ ap (front (key x, x)) (first_greatest xs h.1)
      ∙ step x (greatest (on key R) xs) (holds (λ y. R (key x) (key y) ≡ Equal → ⊥) xs h.0)
