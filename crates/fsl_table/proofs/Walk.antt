-- A walk over entries in the order of their keys: from one entry on.
use Rattle.std.proofs.Common.{◌≡◌, true, false, cond, List, [], ◌∷◌, Option, Some, None, refl, sym, ap, subst, ◌∙◌}
use mathlib.Core.Bool.{true≢false}
use Rattle.std.specs.List.{AllByRecursion}
use Rattle.std.specs.List.Sorted.{IsStrictlySortedBy}
use Rattle.std.specs.Map.{keys_of}
use Rattle.std.specs.Ordering.{is_lt, ordering_reverse}
use Rattle.std.specs.declared.cmp.Ordering.{Ordering}
use Rattle.std.specs.declared.cmp.Ordering.TheVariants.{Less, Equal, Greater}
use Rattle.std.specs.Cmp.{IsTotalOrder, tied_itself}
use Rattle.fsl_table.specs.Contents.{entries_after, first_of}

less_is : (r : Ordering) → is_lt r ≡ true → r ≡ Less
less_is Less h = refl
less_is Equal h = absurd (true≢false (sym h))
less_is Greater h = absurd (true≢false (sym h))

module _ {K X : Type 0} (R : K → K → Ordering) where
  -- an entry and those above it
  abbrev pub from : Option (K × X) → List (K × X) → List (K × X)
  from None es = []
  from (Some e) es = e ∷ entries_after R e.0 es

module _ {K X : Type 0} {R : K → K → Ordering} (o : IsTotalOrder R) where
  abbrev Above : K → List (K × X) → Type 0
  Above c es = AllByRecursion (λ y. R c y ≡ Less) (keys_of es)

  after_all : (c : K) (es : List (K × X)) → Above c es → entries_after R c es ≡ es
  after_all c [] all = refl
  after_all c (e ∷ es) all = λ i. cond (is_lt (all.0 i)) (e ∷ after_all c es all.1 i) (after_all c es all.1 i)

  chain : (a x : K) (es : List (K × X)) → R a x ≡ Less → Above x es → Above a es
  chain a x [] p h = tt
  chain a x (e ∷ es) p h = (o.trans a x e.0 p h.0, chain a x es p h.1)

  first_above : (x k : K) (e : K × X) (es : List (K × X)) → Above x es → first_of (entries_after R k es) ≡ Some e → R x e.0 ≡ Less
  first_above x k e [] all h = cc
  first_above x k e (f ∷ es) all h =
      elim (is_lt (R k f.0)) as (λ b. first_of (cond b (f ∷ entries_after R k es) (entries_after R k es)) ≡ Some e → R x e.0 ≡ Less) [
        | true ↦ λ h. let same : f ≡ e = cc in subst (λ z. R x z.0 ≡ Less) same all.0
        | false ↦ λ h. first_above x k e es all.1 h
      ] h

  from_more : (x : K × X) (n : Option (K × X)) (es : List (K × X)) → ((e : K × X) → n ≡ Some e → R x.0 e.0 ≡ Less) → from R n (x ∷ es) ≡ from R n es
  from_more x None es h = refl
  from_more x (Some e) es h = ap (λ b. e ∷ cond b (x ∷ entries_after R e.0 es) (entries_after R e.0 es)) (ap is_lt (o.antisymm e.0 x.0 ∙ ap ordering_reverse (h e refl)))

  pub from_first : (es : List (K × X)) → IsStrictlySortedBy R (keys_of es) → from R (first_of es) es ≡ es
  unfolding IsStrictlySortedBy
  from_first [] sorted = refl
  from_first (e ∷ es) sorted = ap (λ b. e ∷ cond b (e ∷ entries_after R e.0 es) (entries_after R e.0 es)) (ap is_lt (tied_itself o e.0)) ∙ ap (λ l. e ∷ l) (after_all e.0 es sorted.0)

  pub from_next : (k : K) (es : List (K × X)) → IsStrictlySortedBy R (keys_of es) → from R (first_of (entries_after R k es)) es ≡ entries_after R k es
  unfolding IsStrictlySortedBy
  from_next k [] sorted = refl
  from_next k (x ∷ xs) sorted =
      elim (is_lt (R k x.0)) as (λ b. is_lt (R k x.0) ≡ b → from R (first_of (cond b (x ∷ entries_after R k xs) (entries_after R k xs))) (x ∷ xs) ≡ cond b (x ∷ entries_after R k xs) (entries_after R k xs)) [
        | true ↦ λ h.
            ap (λ b. x ∷ cond b (x ∷ entries_after R x.0 xs) (entries_after R x.0 xs)) (ap is_lt (tied_itself o x.0))
            ∙ ap (λ l. x ∷ l) (after_all x.0 xs sorted.0 ∙ sym (after_all k xs (chain k x.0 xs (less_is (R k x.0) h) sorted.0)))
        | false ↦ λ h. from_more x (first_of (entries_after R k xs)) xs (λ e f. first_above x.0 k e xs sorted.0 f) ∙ from_next k xs sorted.1
      ] refl
