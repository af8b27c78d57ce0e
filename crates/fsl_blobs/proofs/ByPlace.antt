-- The names of a kind by their places are the held names of that kind.
use Rattle.std.proofs.Common.{◌≡◌, ℕ, ◌+◌, ◌-◌, Bool, true, false, cond, not, List, [], ◌∷◌, ◌++◌, length, map, filter, Option, Some, None, refl, sym, ap, ◌∙◌, subst}
use Rattle.std.specs.Prelude.{if◌then◌else◌, is_some, nat_le, filter_map, IfSome, slice_get, All}
use Rattle.std.specs.Option.{option_map, option_map_or}
use Rattle.std.specs.Map.{lookup}
use Rattle.std.specs.List.{AllByRecursion, IsDistinct, list_any}
use Rattle.std.specs.Str.{bytes_eq}
use Rattle.std.specs.List.Sorted.{IsStrictlySortedBy, IsNonDecreasingBy, IsPermutation}
use Rattle.std.specs.Cmp.{nat_cmp_total, unsigned_tied, nat_eq_equiv}
use Rattle.std.specs.Ordering.{nat_cmp, eq_by_cmp}
use Rattle.std.proofs.Common.{eqb}
use Rattle.std.specs.FinMap as map_of
use Rattle.std.specs.FinMap.{nat_cmp-IsAntisymmetric}
use Rattle.std.specs.FinMap.Entries.{same_entries}
use Rattle.std.proofs.lemmas.List.Sorted.{IsPermutation-map, IsPermutation-trans, IsPermutation-filter_both, IsPermutation-append_comm, IsPermutation-append_left, list_any-IsPermutation}
use Rattle.std.proofs.lemmas.Map.Keys.{IsStrictlyIncreasing-from_distinct, sorted_from_strictly_increasing, IsDistinct-IsPermutation}
use Rattle.std.proofs.lemmas.Map.Made.{IsDistinct-keys_filter}
use Rattle.fsl_order.specs.Names.{bytes_cmp}
use Rattle.fsl_order.specs.Rows.{in_order, keyed}
use Rattle.fsl_order.proofs.RowLemmas.{pairs, find-keyed, is_sorted-keyed}
use Rattle.fsl_order.proofs.SortedLemmas.{in_order-sorted, in_order-from_sort}
use Rattle.fsl_order.proofs.Gathered.{in_order-filter}
use Rattle.fsl_order.proofs.MovedLemmas.{IsPermutation-in_order}
use Rattle.fsl_record.specs.declared.Record.{Record}
use Rattle.fsl_blobs.specs.declared.Placed.{Placed}
use Rattle.fsl_blobs.specs.declared.blobs.HeldArtifact.{HeldArtifact}
use Rattle.fsl_blobs.specs.declared.order.Order.{Order}
use Rattle.fsl_blobs.specs.Fold.{Held, contents, place, held_from, held_as_from, is_held_as, size_in, walked}
use Rattle.fsl_blobs.specs.Seen.{Seen}
use Rattle.fsl_blobs.specs.Kept.{is_same, held_at, artifact_of, is_kind, is_place, names_in, name_at, name_in, place_as, IsOrdered}
use Rattle.fsl_blobs.specs.Listing.{pair_of, place_of, size_at}
use Rattle.fsl_blobs.proofs.KeptLemmas.{is_same-means}
use Rattle.fsl_blobs.proofs.HeldLists.{keys_in, keys-held, by_recursion, ArePlaced, are_placed, places_are, distinct_places, place-blob, one_place, all_from_zero, any_placed, some_map, places_in, rise_from_sort}
use Rattle.fsl_blobs.proofs.Ordered.{place-means, place-itself, place_some}

abbrev Pairs : Type 0
Pairs = List (ℕ × List ℕ)

abbrev numbers : Pairs → List ℕ
numbers ps = map (λ p. p.0) ps

-- ---- look-ups by place

abbrev paired : ℕ → List ℕ → ℕ × List ℕ
paired n q = (n, q)

-- an item with its key, found
with_key : (n : ℕ) (ps : Pairs) → lookup (eq_by_cmp nat_cmp n) (pairs (λ p. p.0) ps) ≡ option_map (paired n) (name_at ps n)
with_key n [] = refl
with_key n (p ∷ ps) =
    elim (is_place n p.0) as (λ b. is_place n p.0 ≡ b → cond b (Some p) (lookup (eq_by_cmp nat_cmp n) (pairs (λ p. p.0) ps)) ≡ option_map (paired n) (cond b (Some p.1) (name_at ps n))) [
      | true ↦ λ e. ap (λ (k : ℕ). Some (paired k p.1)) (sym (place-means n p.0 e))
      | false ↦ λ _. with_key n ps
    ] refl

agree : (x y : Option (List ℕ)) → ((q : List ℕ) → x ≡ Some q → y ≡ Some q) → ((q : List ℕ) → y ≡ Some q → x ≡ Some q) → x ≡ y
agree None None f g = refl
agree None (Some q) f g = g q refl
agree (Some q) y f g = sym (f q refl)

-- names by rising places, found alike, are the same
same_names : (xs ys : Pairs) → IsStrictlySortedBy nat_cmp (numbers xs) → ((n : ℕ) → name_at xs n ≡ name_at ys n) → xs ≡ in_order nat_cmp (λ p. p.0) ys
same_names xs ys rise alike =
    let key : ℕ × List ℕ → ℕ = λ p. p.0 in
    sym (in_order-sorted nat_cmp key xs rise)
    ∙ ap (map (λ e. e.1)) (same_entries nat_cmp nat_cmp_total nat_cmp-IsAntisymmetric (keyed nat_cmp key xs) (keyed nat_cmp key ys) (is_sorted-keyed nat_cmp_total key xs) (is_sorted-keyed nat_cmp_total key ys)
    (λ n. find-keyed nat_cmp_total key n xs ∙ with_key n xs ∙ ap (option_map (paired n)) (alike n) ∙ sym (with_key n ys) ∙ sym (find-keyed nat_cmp_total key n ys)))

swapped : {X : Type 0} (p q : X → Bool) (xs : List X) → filter p (filter q xs) ≡ filter q (filter p xs)
swapped p q [] = refl
swapped p q (x ∷ xs) =
    elim (p x) as (λ a. p x ≡ a → filter p (cond (q x) (x ∷ filter q xs) (filter q xs)) ≡ filter q (cond a (x ∷ filter p xs) (filter p xs))) [
      | true ↦ λ e. elim (q x) as (λ b. q x ≡ b → filter p (cond b (x ∷ filter q xs) (filter q xs)) ≡ cond b (x ∷ filter q (filter p xs)) (filter q (filter p xs))) [
        | true ↦ λ _. ap (λ (b : Bool). cond b (x ∷ filter p (filter q xs)) (filter p (filter q xs))) e ∙ ap (λ ys. x ∷ ys) (swapped p q xs)
        | false ↦ λ _. swapped p q xs
      ] refl
      | false ↦ λ e. elim (q x) as (λ b. filter p (cond b (x ∷ filter q xs) (filter q xs)) ≡ filter q (filter p xs)) [
        | true ↦ ap (λ (b : Bool). cond b (x ∷ filter p (filter q xs)) (filter p (filter q xs))) e ∙ swapped p q xs
        | false ↦ swapped p q xs
      ]
    ] refl

-- two lists, each in another order
appended : {X : Type 0} (xs xs' ys ys' : List X) → IsPermutation xs xs' → IsPermutation ys ys' → IsPermutation (xs ++ ys) (xs' ++ ys')
appended xs xs' ys ys' p q =
    IsPermutation-trans (xs ++ ys) (xs' ++ ys) (xs' ++ ys') (IsPermutation-append_left ys xs xs' p)
    (IsPermutation-trans (xs' ++ ys) (ys ++ xs') (xs' ++ ys') (IsPermutation-append_comm xs' ys)
    (IsPermutation-trans (ys ++ xs') (ys' ++ xs') (xs' ++ ys') (IsPermutation-append_left xs' ys ys' q) (IsPermutation-append_comm ys' xs')))

-- ---- of the held names

module _ (kind : Bool) (es : List (List ℕ × HeldArtifact)) where
  abbrev of_kind : List ℕ → Bool
  of_kind name = option_map_or (λ a. is_kind kind a.private) (held_at es name) false

  abbrev chosen : List (List ℕ × HeldArtifact) → Pairs
  chosen fs = filter (λ p. of_kind p.1) (map place_of fs)

  found_place : (fs : List (List ℕ × HeldArtifact)) → AllByRecursion (λ e. held_at es e.0 ≡ Some e.1) fs → (n : ℕ) (q : List ℕ) → name_at (chosen fs) n ≡ Some q → place_as kind (held_at es q) ≡ Some n
  found_place [] all n q e = absurd cc
  found_place (f ∷ fs) all n q e =
      elim (is_kind kind f.1.private) as (λ k. is_kind kind f.1.private ≡ k → name_at (cond k (place_of f ∷ chosen fs) (chosen fs)) n ≡ Some q → place_as kind (held_at es q) ≡ Some n) [
        | true ↦ λ k e. elim (is_place n f.1.place) as (λ t. is_place n f.1.place ≡ t → cond t (Some f.0) (name_at (chosen fs) n) ≡ Some q → place_as kind (held_at es q) ≡ Some n) [
          | true ↦ λ t e.
              let same : f.0 ≡ q = cc in
              ap (λ (x : List ℕ). place_as kind (held_at es x)) (sym same) ∙ ap (place_as kind) all.0 ∙ ap (λ (b : Bool). cond b (Some f.1.place) None) k ∙ ap Some (sym (place-means n f.1.place t))
          | false ↦ λ t e. found_place fs all.1 n q e
        ] refl e
        | false ↦ λ k e. found_place fs all.1 n q e
      ] refl (sym (ap (λ (o : Option HeldArtifact). name_at (cond (option_map_or (λ a. is_kind kind a.private) o false) (place_of f ∷ chosen fs) (chosen fs)) n) all.0) ∙ e)

  some_place : (n : ℕ) (q : List ℕ) (a : HeldArtifact) → of_kind q ≡ true → a.place ≡ n → (fs : List (List ℕ × HeldArtifact)) → held_at fs q ≡ Some a → is_some (name_at (chosen fs) n) ≡ true
  some_place n q a k at [] e = absurd cc
  some_place n q a k at (f ∷ fs) e =
      elim (is_same q f.0) as (λ s. is_same q f.0 ≡ s → cond s (Some f.1) (held_at fs q) ≡ Some a → is_some (name_at (cond (of_kind f.0) (place_of f ∷ chosen fs) (chosen fs)) n) ≡ true) [
        | true ↦ λ s e.
            let it : f.1 ≡ a = cc in
            let here : is_place n f.1.place ≡ true = subst (λ (m : ℕ). is_place n m ≡ true) (sym (ap (λ (x : HeldArtifact). x.place) it ∙ at)) (place-itself n) in
            ap (λ (b : Bool). is_some (name_at (cond b (place_of f ∷ chosen fs) (chosen fs)) n)) (sym (ap of_kind (is_same-means q f.0 s)) ∙ k)
            ∙ ap (λ (t : Bool). is_some (cond t (Some f.0) (name_at (chosen fs) n))) here
        | false ↦ λ s e. elim (of_kind f.0) as (λ b. is_some (name_at (cond b (place_of f ∷ chosen fs) (chosen fs)) n) ≡ true) [
          | true ↦ elim (is_place n f.1.place) as (λ t. is_some (cond t (Some f.0) (name_at (chosen fs) n)) ≡ true) [ true ↦ refl | false ↦ some_place n q a k at fs e ]
          | false ↦ some_place n q a k at fs e
        ]
      ] refl e

module _ (records : List Record) (es : List (List ℕ × HeldArtifact)) (held : (name : List ℕ) → option_map artifact_of (held_at es name) ≡ map_of.get (contents records).held name) (rise : IsStrictlySortedBy bytes_cmp (keys_in es))
    (places : (name : List ℕ) → IfSome (held_at es name) (λ a. place records name ≡ Some a.place)) (all : All (λ e. held_at es e.0 ≡ Some e.1) es) where
  abbrev placed_names : Pairs
  placed_names = map place_of es

  placed : ArePlaced records es
  placed = are_placed records es places all

  distinct : IsDistinct (eq_by_cmp nat_cmp) (numbers (map place_of es))
  distinct = distinct_places records es placed rise

  -- the held names by place are those of the entries
  held_zero : held_from records 0 ≡ in_order nat_cmp (λ p. p.0) (map place_of es)
  held_zero =
      sym (ap (in_order nat_cmp (λ p. p.0)) (sym (all_from_zero (map place_of es)))
      ∙ ap (λ (ps : Pairs). in_order nat_cmp (λ p. p.0) (filter (λ p. nat_le 0 p.0) ps)) (places_are records es placed)
      ∙ ap (λ (ks : List (List ℕ)). in_order nat_cmp (λ p. p.0) (filter (λ p. nat_le 0 p.0) (filter_map (λ name. option_map (λ n. (n, name)) (place records name)) ks))) (keys-held records es held rise))

  held_some : (from : ℕ) → held_from records from ≡ filter (λ p. nat_le from p.0) (in_order nat_cmp (λ p. p.0) (map place_of es))
  held_some from =
      sym (sym (in_order-filter (λ p. nat_le from p.0) (λ p. p.0) nat_cmp nat_cmp_total (map place_of es) distinct)
      ∙ ap (λ (ps : Pairs). in_order nat_cmp (λ p. p.0) (filter (λ p. nat_le from p.0) ps)) (places_are records es placed)
      ∙ ap (λ (ks : List (List ℕ)). in_order nat_cmp (λ p. p.0) (filter (λ p. nat_le from p.0) (filter_map (λ name. option_map (λ n. (n, name)) (place records name)) ks))) (keys-held records es held rise))

  place_is : (q : List ℕ) (a : HeldArtifact) → held_at es q ≡ Some a → place records q ≡ Some a.place
  place_is q a at = subst (λ (o : Option HeldArtifact). IfSome o (λ a. place records q ≡ Some a.place)) at (places q)

  kind_is : (kind : Bool) (name : List ℕ) → of_kind kind es name ≡ is_held_as kind (contents records).held name
  kind_is kind name = by kind (held_at es name) ∙ ap (λ (o : Option Held). option_map_or (λ a. if kind then a.private else not a.private) o false) (held name)
    where
      by : (kind : Bool) (o : Option HeldArtifact) → option_map_or (λ a. is_kind kind a.private) o false ≡ option_map_or (λ a. if kind then a.private else not a.private) (option_map artifact_of o) false
      by true None = refl
      by true (Some a) = refl
      by false None = refl
      by false (Some a) = refl

  module _ (order : Order) (fits : IsOrdered es order) (kind : Bool) (sorted : IsStrictlySortedBy nat_cmp (numbers (names_in kind order))) where
    given_back : (n : ℕ) (q : List ℕ) → place_as kind (held_at es q) ≡ Some n → name_at (chosen kind es es) n ≡ Some q
    given_back n q e =
        let it = place_some (held_at es q) kind n e in
        let right : of_kind kind es q ≡ true = ap (λ (o : Option HeldArtifact). option_map_or (λ a. is_kind kind a.private) o false) it.1 ∙ it.2 in
        elim (name_at (chosen kind es es) n) as (λ o. name_at (chosen kind es es) n ≡ o → o ≡ Some q) [
          | None ↦ λ none. absurd (no (sym (ap is_some none) ∙ some_place kind es n q it.0 right it.3 es it.1))
          | Some p ↦ λ some.
              let other = place_some (held_at es p) kind n (found_place kind es es (by_recursion (λ e. held_at es e.0 ≡ Some e.1) es all) n p some) in
              let blob = place-blob records p n (place_is p other.0 other.1 ∙ ap Some other.3) in
              let mine = place-blob records q n (place_is q it.0 it.1 ∙ ap Some it.3) in
              ap Some (one_place (slice_get records (n - 1)) p q blob mine)
        ] refl
      where
        no : false ≡ true → ⊥
        no e = cc

    -- the names of a kind are those of the held names
    pub by_place : names_in kind order ≡ held_as_from kind records 0
    by_place =
        same_names (names_in kind order) (chosen kind es es) sorted
        (λ n. agree (name_in kind order n) (name_at (chosen kind es es) n) (λ q e. given_back n q (fits.only kind q n e)) (λ q e. fits.there kind q n (found_place kind es es (by_recursion (λ e. held_at es e.0 ≡ Some e.1) es all) n q e)))
        ∙ in_order-filter (λ p. of_kind kind es p.1) (λ p. p.0) nat_cmp nat_cmp_total (map place_of es) distinct
        ∙ (λ i. filter (λ p. kind_is kind p.1 i) (sym held_zero i))

    -- .. and those from a place on
    pub by_place_from : (from : ℕ) → filter (λ p. nat_le from p.0) (names_in kind order) ≡ held_as_from kind records from
    by_place_from from =
        let test : ℕ × List ℕ → Bool = λ p. is_held_as kind (contents records).held p.1 in
        ap (filter (λ p. nat_le from p.0)) by_place ∙ swapped (λ p. nat_le from p.0) test (held_from records 0)
        ∙ ap (λ (ps : Pairs). filter (λ p. is_held_as kind (contents records).held p.1) (filter (λ p. nat_le from p.0) ps)) held_zero
        ∙ ap (filter (λ p. is_held_as kind (contents records).held p.1)) (sym (held_some from))

    part : (from : ℕ) → IsPermutation (filter (λ p. of_kind kind es p.1) (filter (λ p. nat_le from p.0) (map place_of es))) (filter (λ p. nat_le from p.0) (names_in kind order))
    part from =
        let key : ℕ × List ℕ → ℕ = λ p. p.0 in
        let test : ℕ × List ℕ → Bool = λ p. of_kind kind es p.1 in
        let late : ℕ × List ℕ → Bool = λ p. nat_le from p.0 in
        let some : IsDistinct (eq_by_cmp nat_cmp) (numbers (filter test (map place_of es))) = IsDistinct-keys_filter (eq_by_cmp nat_cmp) test (map place_of es) distinct in
        let few : IsDistinct (eq_by_cmp nat_cmp) (numbers (filter late (filter test (map place_of es)))) = IsDistinct-keys_filter (eq_by_cmp nat_cmp) late (filter test (map place_of es)) some in
        let is : names_in kind order ≡ in_order nat_cmp key (filter test (map place_of es)) =
        same_names (names_in kind order) (chosen kind es es) sorted
        (λ n. agree (name_in kind order n) (name_at (chosen kind es es) n) (λ q e. given_back n q (fits.only kind q n e)) (λ q e. fits.there kind q n (found_place kind es es (by_recursion (λ e. held_at es e.0 ≡ Some e.1) es all) n q e))) in
        subst (IsPermutation (filter test (filter late (map place_of es))))
        (in_order-filter late key nat_cmp nat_cmp_total (filter test (map place_of es)) some ∙ ap (filter late) (sym is))
        (subst (λ (ps : Pairs). IsPermutation ps (in_order nat_cmp key (filter late (filter test (map place_of es))))) (swapped late test (map place_of es))
        (IsPermutation-in_order nat_cmp nat_cmp_total key (filter late (filter test (map place_of es))) few))

  -- each of the held names is of one kind
  module _ (order : Order) (fits : IsOrdered es order) (sorted_public : IsStrictlySortedBy nat_cmp (numbers order.public.entries)) (sorted_private : IsStrictlySortedBy nat_cmp (numbers order.private.entries))
      (from : ℕ) (names sorted : List Placed)
      (seen : map pair_of names ≡ filter (λ p. nat_le from p.0) order.public.entries ++ filter (λ p. nat_le from p.0) order.private.entries)
      (moved : IsPermutation names sorted) (ordered : IsNonDecreasingBy (λ p. p.place) sorted) where
    abbrev late : ℕ × List ℕ → Bool
    late p = nat_le from p.0

    abbrev open_ : ℕ × List ℕ → Bool
    open_ p = of_kind false es p.1

    abbrev closed : ℕ × List ℕ → Bool
    closed p = of_kind true es p.1

    abbrev some : Pairs
    some = filter late (map place_of es)

    other : filter (λ p. not (open_ p)) (map place_of es) ≡ filter closed (map place_of es)
    other = agreeing es (by_recursion (λ e. held_at es e.0 ≡ Some e.1) es all)
      where
        agreeing : (fs : List (List ℕ × HeldArtifact)) → AllByRecursion (λ e. held_at es e.0 ≡ Some e.1) fs → filter (λ p. not (open_ p)) (map place_of fs) ≡ filter closed (map place_of fs)
        agreeing [] h = refl
        agreeing (f ∷ fs) h =
            let head : not (open_ (place_of f)) ≡ closed (place_of f) =
            ap (λ (o : Option HeldArtifact). not (option_map_or (λ a. is_kind false a.private) o false)) h.0 ∙ twice f.1.private
            ∙ sym (ap (λ (o : Option HeldArtifact). option_map_or (λ a. is_kind true a.private) o false) h.0) in
            λ i. cond (head i) (place_of f ∷ agreeing fs h.1 i) (agreeing fs h.1 i)
          where
            twice : (b : Bool) → not (not b) ≡ b
            twice true = refl
            twice false = refl

    other_late : filter (λ p. not (open_ p)) (filter late (map place_of es)) ≡ filter closed (filter late (map place_of es))
    other_late = swapped (λ p. not (open_ p)) late (map place_of es) ∙ ap (filter late) other ∙ swapped late closed (map place_of es)

    pairs_moved : IsPermutation some (map pair_of sorted)
    pairs_moved =
        IsPermutation-trans some (map pair_of names) (map pair_of sorted)
        (subst (IsPermutation some) (sym seen)
        (IsPermutation-trans some (filter open_ some ++ filter closed some) (filter late order.public.entries ++ filter late order.private.entries)
        (subst (λ (ps : Pairs). IsPermutation some (filter open_ some ++ ps)) other_late (IsPermutation-filter_both open_ (λ p. not (open_ p)) (λ p. refl) some))
        (appended (filter open_ some) (filter late order.public.entries) (filter closed some) (filter late order.private.entries) (part order fits false sorted_public from) (part order fits true sorted_private from))))
        (IsPermutation-map pair_of names sorted moved)

    differ : IsDistinct (eq_by_cmp nat_cmp) (numbers some)
    differ = IsDistinct-keys_filter (eq_by_cmp nat_cmp) late (map place_of es) distinct

    still_differ : IsDistinct eqb (places_in sorted)
    still_differ =
        IsDistinct-IsPermutation eqb nat_eq_equiv.symm (numbers some) (places_in sorted) (IsPermutation-map (λ p. p.0) some (map pair_of sorted) pairs_moved)
        (subst (λ (e : ℕ → ℕ → Bool). IsDistinct e (numbers some)) (λ i x y. unsigned_tied x y i) differ)

    pub listed : (b : Seen) → records ≡ b.records → map pair_of sorted ≡ held_from b.records from
    listed b view =
        in_order-from_sort nat_cmp (λ p. p.0) nat_cmp_total nat_cmp-IsAntisymmetric some (map pair_of sorted) differ pairs_moved
        (sorted_from_strictly_increasing (places_in sorted) (IsStrictlyIncreasing-from_distinct (places_in sorted) (rise_from_sort sorted ordered) still_differ))
        ∙ in_order-filter late (λ p. p.0) nat_cmp nat_cmp_total (map place_of es) distinct ∙ sym (held_some from)
        ∙ ap (λ (rs : List Record). held_from rs from) view

    pub all_listed : (b : Seen) → records ≡ b.records → from ≡ 0 → (q : List ℕ) → map_of.contains_key (contents b.records).held q ≡ true → list_any (λ p. bytes_eq p.1 q) (held_from b.records 0) ≡ true
    all_listed b view start q there =
        let p : ℕ × List ℕ → Bool = λ p. bytes_eq p.1 q in
        ap (λ (n : ℕ). list_any p (held_from b.records n)) (sym start) ∙ sym (ap (list_any p) (listed b view)) ∙ sym (list_any-IsPermutation p some (map pair_of sorted) pairs_moved)
        ∙ ap (λ (n : ℕ). list_any p (filter (λ x. nat_le n x.0) (map place_of es))) start ∙ ap (list_any p) (all_from_zero (map place_of es)) ∙ any_placed q es
        ∙ some_map (held_at es q) ∙ ap is_some (held q) ∙ ap (λ (rs : List Record). map_of.contains_key (contents rs).held q) view ∙ there

-- ---- as the methods have them

module _ (records : List Record) (es : List (List ℕ × HeldArtifact)) (held : (name : List ℕ) → option_map artifact_of (held_at es name) ≡ map_of.get (contents records).held name) (sized : (name : List ℕ) → IfSome (held_at es name) (λ a. a.size ≡ length a.bytes.value)) where
  size_is : (name : List ℕ) → size_at es name ≡ size_in (contents records).held name
  size_is name = by (held_at es name) (sized name) ∙ ap (λ (o : Option Held). option_map_or (λ a. length a.bytes) o 0) (held name)
    where
      by : (o : Option HeldArtifact) → IfSome o (λ a. a.size ≡ length a.bytes.value) → option_map_or (λ a. a.size) o 0 ≡ option_map_or (λ a. length a.bytes) (option_map artifact_of o) 0
      by None h = refl
      by (Some a) h = h

  pub walked_alike : (most each sum : ℕ) (ps : Pairs) → walked most each (size_at es) sum ps ≡ walked most each (size_in (contents records).held) sum ps
  walked_alike most each sum [] = refl
  walked_alike most each sum (p ∷ ps) =
      ap (λ (rest : Pairs). p ∷ (if nat_le most sum then [] else rest)) (ap (λ (n : ℕ). walked most each (size_at es) (sum + (n + each)) ps) (size_is p.1) ∙ walked_alike most each (sum + (size_in (contents records).held p.1 + each)) ps)
