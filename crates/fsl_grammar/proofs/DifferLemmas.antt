-- References that are sorted by their bytes, with repeats left out, are as many as before exactly where all differ.
use Rattle.std.proofs.Common.{◌≡◌, ℕ, ◌≤◌, suc, Bool, true, false, not, cond, eqb, List, [], ◌∷◌, length, map, refl, sym, ap, ◌∙◌, subst, arith}
use Rattle.std.specs.Prelude.{IsPermutation}
use Rattle.std.specs.List.{list_all, AllByRecursion, IsDistinct, dedup, dedup_from}
use Rattle.std.specs.List.Retain.{IsFiltered, DiffersFromLast}
use Rattle.std.specs.List.Sorted.{IsSorted, IsStrictlySortedBy}
use Rattle.std.specs.declared.cmp.Ordering.{Ordering}
use Rattle.std.specs.Ordering.{eq_by_cmp, is_eq}
use Rattle.std.specs.Cmp.{IsTotalOrder}
use Rattle.std.proofs.lemmas.Cmp.{on_total}
use Rattle.std.specs.Str.{bytes_eq}
use Rattle.std.specs.Cmp.Lexicographic.{texts_ties, nat_list_eq_equiv}
use Rattle.std.proofs.lemmas.Bool.{eqb-true, eq-eqb, not-true}
use Rattle.std.proofs.lemmas.List.{length-map}
use Rattle.std.proofs.lemmas.List.Filters.{dedup_is}
use Rattle.std.proofs.lemmas.List.Kept.{IsStrictlySortedBy-dedup}
use Rattle.std.proofs.lemmas.List.Sorted.{length_permutation, IsPermutation-sym}
use Rattle.std.proofs.lemmas.Map.Keys.{IsDistinct-from_sorted, IsDistinct-head, IsDistinct-tail, IsDistinct-IsPermutation}
use Rattle.fsl_order.specs.Names.{bytes_cmp}
use Rattle.fsl_order.proofs.Orders.{bytes_cmp-IsTotalOrder}
use Rattle.fsl_order.proofs.Booleans.{first_holds, second_holds}
use Rattle.fsl_name.specs.Ref.{ref_bytes}
use Rattle.fsl_name.specs.declared.reference.Ref.{Ref}
use Rattle.fsl_grammar.specs.Forms.{refs_differ}
use Rattle.std.specs.Prelude.{◌&&◌}
use Rattle.std.proofs.lemmas.List.Folds.{list_all-map}

-- no two texts are the same
abbrev pub all_differ : List (List ℕ) → Bool
all_differ [] = true
all_differ (x ∷ xs) = list_all (λ y. not (bytes_eq x y)) xs && all_differ xs

pub by_bytes : (refs : List Ref) → all_differ (map ref_bytes refs) ≡ refs_differ refs
by_bytes [] = refl
by_bytes (x ∷ xs) = rw (list_all-map (λ y. not (bytes_eq (ref_bytes x) y)) ref_bytes xs, by_bytes xs) refl

both_or_none : (a b : Bool) → (a ≡ true → b ≡ true) → (b ≡ true → a ≡ true) → a ≡ b
both_or_none true true h k = refl
both_or_none true false h k = sym (h refl)
both_or_none false true h k = k refl
both_or_none false false h k = refl

-- ---- values that are told apart as their bytes are

module _ {X : Type 0} (key : X → List ℕ) where
  -- whether two are the same
  abbrev pub same : X → X → Bool
  same x y = bytes_eq (key x) (key y)

  abbrev pub order : X → X → Ordering
  order x y = bytes_cmp (key x) (key y)

  abbrev keys : List X → List (List ℕ)
  keys xs = map key xs

  order-IsTotalOrder : IsTotalOrder order
  order-IsTotalOrder = on_total key bytes_cmp-IsTotalOrder

  ties : (x y : X) → same x y ≡ is_eq (order x y)
  ties x y = texts_ties (key x) (key y)

  flips : (x y : X) → same x y ≡ same y x
  flips x y = nat_list_eq_equiv.symm (key x) (key y)

  -- ---- what is distinct differs

  apart_from : (x : X) (ys : List X) → list_all (λ y. not (bytes_eq (key x) y)) (keys ys) ≡ true → AllByRecursion (λ y. same x y ≡ false) ys
  apart_from x [] h = tt
  apart_from x (y ∷ ys) h =
      (not-true _ (first_holds _ (list_all (λ y. not (bytes_eq (key x) y)) (keys ys)) h), apart_from x ys (second_holds (not (same x y)) _ h))

  differ_from : (x : X) (ys : List X) → AllByRecursion (λ y. same x y ≡ false) ys → list_all (λ y. not (bytes_eq (key x) y)) (keys ys) ≡ true
  differ_from x [] h = refl
  differ_from x (y ∷ ys) h = rw (h.0, differ_from x ys h.1) refl

  distinct_from : (xs : List X) → all_differ (keys xs) ≡ true → IsDistinct same xs
  unfolding IsDistinct
  distinct_from [] h = tt
  distinct_from (x ∷ xs) h = (apart_from x xs (first_holds _ (all_differ (keys xs)) h), distinct_from xs (second_holds (list_all (λ y. not (bytes_eq (key x) y)) (keys xs)) _ h))

  differ_all : (xs : List X) → IsDistinct same xs → all_differ (keys xs) ≡ true
  unfolding IsDistinct
  differ_all [] h = refl
  differ_all (x ∷ xs) h = rw (differ_from x xs h.0, differ_all xs h.1) refl

  -- ---- repeats left out

  kept_short : (x : X) (ys : List X) → length (dedup_from same x ys) ≤ suc (length ys)
  kept_short x [] = omega arith
  kept_short x (y ∷ ys) = by (same y x) (kept_short x ys) (kept_short y ys)
    where
      by : (t : Bool) → length (dedup_from same x ys) ≤ suc (length ys) → length (dedup_from same y ys) ≤ suc (length ys) → length (cond t (dedup_from same x ys) (x ∷ dedup_from same y ys)) ≤ suc (suc (length ys))
      by true h k = omega arith
      by false h k = omega arith

  kept_all : (x : X) (ys : List X) → length (dedup_from same x ys) ≡ suc (length ys) → dedup_from same x ys ≡ x ∷ ys
  kept_all x [] h = refl
  kept_all x (y ∷ ys) h = by (same y x) (kept_all y ys) h
    where
      by : (t : Bool) → (length (dedup_from same y ys) ≡ suc (length ys) → dedup_from same y ys ≡ y ∷ ys) → length (cond t (dedup_from same x ys) (x ∷ dedup_from same y ys)) ≡ suc (suc (length ys)) → cond t (dedup_from same x ys) (x ∷ dedup_from same y ys) ≡ x ∷ y ∷ ys
      by true more h = absurd (omega (arith, kept_short x ys))
      by false more h = ap (λ (zs : List X). x ∷ zs) (more (omega arith))

  all_kept : (xs : List X) → length (dedup same xs) ≡ length xs → dedup same xs ≡ xs
  all_kept [] h = refl
  all_kept (x ∷ xs) h = kept_all x xs h

  kept_from : (x : X) (ys : List X) → IsDistinct same (x ∷ ys) → dedup_from same x ys ≡ x ∷ ys
  kept_from x [] h = refl
  kept_from x (y ∷ ys) h = by (same y x) (flips y x ∙ (IsDistinct-head same x (y ∷ ys) h).0) (kept_from y ys (IsDistinct-tail same x (y ∷ ys) h))
    where
      by : (t : Bool) → t ≡ false → dedup_from same y ys ≡ y ∷ ys → cond t (dedup_from same x ys) (x ∷ dedup_from same y ys) ≡ x ∷ y ∷ ys
      by true e more = absurd cc
      by false e more = ap (λ (zs : List X). x ∷ zs) more

  distinct_kept : (xs : List X) → IsDistinct same xs → dedup same xs ≡ xs
  distinct_kept [] h = refl
  distinct_kept (x ∷ xs) h = kept_from x xs h

  -- ---- what is sorted

  told_apart : (xs : List X) → IsDistinct (eq_by_cmp order) xs → IsDistinct same xs
  told_apart xs h =
      let alike : eq_by_cmp order ≡ same = λ i. λ x. λ y. sym (ties x y) i in
      subst (λ (e : X → X → Bool). IsDistinct e xs) alike h

  pub as_many : (xs sorted kept : List X) → IsPermutation xs sorted → IsSorted order sorted → IsFiltered (DiffersFromLast same) [] sorted kept → eqb (length kept) (length xs) ≡ all_differ (map key xs)
  as_many xs sorted kept moved rising left =
      let is : kept ≡ dedup same sorted = dedup_is same sorted kept left in
      let long : length sorted ≡ length xs = length_permutation xs sorted moved in
      both_or_none _ _
      (λ h.
      let alike : dedup same sorted ≡ sorted = all_kept sorted (ap length (sym is) ∙ eqb-true (length kept) (length xs) h ∙ sym long) in
      let strict : IsStrictlySortedBy order sorted = subst (IsStrictlySortedBy order) alike (IsStrictlySortedBy-dedup order-IsTotalOrder ties sorted rising) in
      differ_all xs (IsDistinct-IsPermutation same flips sorted xs (IsPermutation-sym xs sorted moved) (told_apart sorted (IsDistinct-from_sorted order sorted strict))))
      (λ h.
      let apart : IsDistinct same sorted = IsDistinct-IsPermutation same flips xs sorted moved (distinct_from xs h) in
      eq-eqb (length kept) (length xs) (ap length (is ∙ distinct_kept sorted apart) ∙ long))

-- what has the same keys is as long
pub as_long : {X Y : Type 0} (f : X → List ℕ) (g : Y → List ℕ) (xs : List X) (ys : List Y) → map f xs ≡ map g ys → length ys ≡ length xs
as_long f g xs ys e = sym (length-map ys g) ∙ sym (ap length e) ∙ length-map xs f
