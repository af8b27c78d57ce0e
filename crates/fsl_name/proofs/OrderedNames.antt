-- Sorted names: what a sort without doubles leaves, and what a binary search answers.
use Rattle.std.proofs.Common.{◌≡◌, ℕ, ◌+◌, ◌<◌, ◌≤◌, Bool, true, false, cond, List, [], ◌∷◌, length, get_or, Result, Ok, Err, refl, sym, ap, ◌∙◌, arith, ⊎_elim}
use Rattle.std.specs.Prelude.{◌||◌}
use Rattle.std.specs.Result.{is_ok}
use Rattle.std.specs.declared.cmp.Ordering.{Ordering}
use Rattle.std.specs.declared.cmp.Ordering.TheVariants.{Less, Greater}
use Rattle.std.specs.Ordering.{is_eq, is_lt, ordering_reverse}
use Rattle.std.specs.List.{list_any, dedup, dedup_from, All}
use Rattle.std.specs.List.Sorted.{IsPermutation, IsSorted, IsSortedBy, IsStrictlySortedBy, IsSearchInRange, IsBinarySearchResult}
use Rattle.std.specs.Str.{bytes_eq}
use Rattle.std.specs.Cmp.Lexicographic.{texts_ties, bytes_decides, nat_list_eq_equiv}
use Rattle.std.proofs.lemmas.Bool.{cases_lt}
use Rattle.std.proofs.lemmas.List.Folds.{list_any_at, list_any_none}
use Rattle.std.proofs.lemmas.List.Kept.{IsStrictlySortedBy-dedup}
use Rattle.std.proofs.lemmas.List.Sorted.{list_any-IsPermutation, searchable_from_sorted}
use Rattle.std.proofs.lemmas.Map.Keys.{Less-from_sorted}
use Rattle.fsl_order.specs.Names.{bytes_cmp, has}
use Rattle.fsl_order.specs.Rows.{ascending}
use Rattle.fsl_order.proofs.Orders.{bytes_cmp-IsTotalOrder}
use Rattle.fsl_order.proofs.SortedLemmas.{ascending-from}

or_again : (a b : Bool) → (a || b) ≡ (a || (a || b))
or_again true b = refl
or_again false b = refl

-- without its doubles a list passes a test as before
any-dedup_from : (p : List ℕ → Bool) (k : List ℕ) (xs : List (List ℕ)) → list_any p (dedup_from bytes_eq k xs) ≡ (p k || list_any p xs)
any-dedup_from p k [] = refl
any-dedup_from p k (x ∷ xs) =
    elim (bytes_eq x k) as (λ b. bytes_eq x k ≡ b → list_any p (cond b (dedup_from bytes_eq k xs) (k ∷ dedup_from bytes_eq x xs)) ≡ (p k || (p x || list_any p xs))) [
      | true ↦ λ e. any-dedup_from p k xs ∙ or_again (p k) (list_any p xs) ∙ ap (λ (y : List ℕ). p k || (p y || list_any p xs)) (sym ((bytes_decides x k).0 e))
      | false ↦ λ e. ap (λ b. p k || b) (any-dedup_from p x xs)
    ] refl

any-dedup : (p : List ℕ → Bool) (xs : List (List ℕ)) → list_any p (dedup bytes_eq xs) ≡ list_any p xs
any-dedup p [] = refl
any-dedup p (x ∷ xs) = any-dedup_from p x xs

pub rising_once : (names ordered : List (List ℕ)) → IsSorted bytes_cmp ordered → IsStrictlySortedBy bytes_cmp (dedup bytes_eq ordered)
rising_once names ordered up = IsStrictlySortedBy-dedup bytes_cmp-IsTotalOrder texts_ties ordered up

pub sorted_once : (names ordered : List (List ℕ)) → IsPermutation names ordered → IsSorted bytes_cmp ordered → dedup bytes_eq ordered ≡ ascending names
sorted_once names ordered moved up =
    ascending-from names (dedup bytes_eq ordered) (rising_once names ordered up) λ q.
    any-dedup (bytes_eq q) ordered ∙ sym (list_any-IsPermutation (bytes_eq q) names ordered moved)

-- ---- a search

weakly_sorted : (names : List (List ℕ)) → IsStrictlySortedBy bytes_cmp names → IsSortedBy (λ x y. is_lt (bytes_cmp x y)) names
weakly_sorted names up k d low lt =
    ap is_lt (bytes_cmp-IsTotalOrder.antisymm (get_or names (k + 1) d) (get_or names k d)
    ∙ ap ordering_reverse (Less-from_sorted bytes_cmp names k (k + 1) d up (omega arith) lt))

-- a name that stands elsewhere in the order is another
other : (x name : List ℕ) (o : Ordering) → bytes_cmp x name ≡ o → is_eq o ≡ false → bytes_eq name x ≡ false
other x name o e not_equal = nat_list_eq_equiv.symm name x ∙ texts_ties x name ∙ ap is_eq e ∙ not_equal

pub searched : (names : List (List ℕ)) (name : List ℕ) (r : Result ℕ ℕ) → IsStrictlySortedBy bytes_cmp names → IsSearchInRange r (length names) → IsBinarySearchResult (λ x. bytes_cmp x name) names r → is_ok r ≡ has names name
searched names name (Ok i) up within found =
    sym (list_any_at (bytes_eq name) names i name within
    (nat_list_eq_equiv.symm name (get_or names i name) ∙ texts_ties (get_or names i name) name ∙ ap is_eq (found name)))
searched names name (Err i) up within found =
    sym (list_any_none (bytes_eq name) names absent)
  where
    absent : All (λ x. bytes_eq name x ≡ false) names
    absent k d lt =
        let apart = found (searchable_from_sorted bytes_cmp-IsTotalOrder (λ x. x) names name (weakly_sorted names up)) in
        ⊎_elim {C = bytes_eq name (get_or names k d) ≡ false}
        (λ (before : k < i). other (get_or names k d) name Less (apart.0 k d (omega arith) before) refl)
        (λ (behind : i ≤ k). other (get_or names k d) name Greater (apart.1 k d behind lt) refl)
        (cases_lt k i)
