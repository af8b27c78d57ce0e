-- Items at their places, as an ordered map has them.
use Rattle.std.proofs.Common.{◌≡◌, ℕ, ◌+◌, ◌-◌, ◌<◌, false, List, [], ◌∷◌, map, drop, length, get_or, refl, sym, ap, ◌∙◌, subst, arith}
use Rattle.std.specs.declared.cmp.Ordering.{Ordering}
use Rattle.std.specs.declared.cmp.Ordering.TheVariants.{Less, Equal, Greater}
use Rattle.std.specs.Cmp.{IsTotalOrder, eq_by_cmp_equiv}
use Rattle.std.specs.Ordering.{eq_by_cmp, match_ordering, is_eq, ordering_then, nat_cmp}
use Rattle.std.specs.List.{IsDistinct, AllByRecursion}
use Rattle.std.specs.Map.{values_of}
use Rattle.std.specs.BTreeMap.{insert_entry}
use Rattle.std.specs.Str.{bytes_eq}
use Rattle.std.specs.Cmp.Lexicographic.{texts_ties}
use Rattle.std.specs.FinMap.{put, IsAntisymmetric}
use Rattle.std.specs.FinMap.Entries.{by_order}
use Rattle.std.proofs.lemmas.List.{drop_more}
use Rattle.std.proofs.lemmas.List.Sorted.{IsPermutation-map}
use Rattle.std.proofs.lemmas.Map.Keys.{IsDistinct-IsPermutation}
use Rattle.fsl_order.specs.Names.{bytes_cmp, dated_cmp, latest_first}
use Rattle.fsl_order.specs.Rows.{keyed, in_order, by_name, AreDistinct}
use Rattle.fsl_order.proofs.RowLemmas.{in_order-permutation, by_name-permutation}
use Rattle.fsl_order.proofs.MovedLemmas.{IsPermutation-in_order, IsPermutation-by_name}

module _ {K X : Type 0} (R : K → K → Ordering) where
  -- an insert is a put where equal keys are the same
  pub put-insert : (k : K) (x : X) (es : List (K × X)) → put R k x es ≡ insert_entry R es k x
  put-insert k x [] = refl
  put-insert k x (e ∷ es) =
      elim (R k e.0) as (λ r. by_order r ((k, x) ∷ e ∷ es) ((e.0, x) ∷ es) (e ∷ put R k x es) ≡ match_ordering r ((k, x) ∷ e ∷ es) ((e.0, x) ∷ es) (e ∷ insert_entry R es k x)) [
        | Less ↦ refl
        | Equal ↦ refl
        | Greater ↦ ap (λ l. e ∷ l) (put-insert k x es)
      ]

  module _ (place : X → K) where
    -- one item more before those that are placed
    pub placed_next : (xs : List X) (left : ℕ) (x : X) (es : List (K × X)) → 0 < left → left - 1 < length xs → x ≡ get_or xs (left - 1) x
        → es ≡ keyed R place (drop left xs) → insert_entry R es (place x) x ≡ keyed R place (drop (left - 1) xs)
    placed_next xs left x es some within is before =
        let e : left - 1 + 1 ≡ left = omega (arith, some) in
        let cut : drop (left - 1) xs ≡ x ∷ drop left xs = drop_more xs (left - 1) x within ∙ (λ i. sym is i ∷ drop (e i) xs) in
        sym (put-insert (place x) x es) ∙ ap (put R (place x) x) before ∙ ap (keyed R place) (sym cut)

    -- items with other names have other places
    module _ (o : IsTotalOrder R) (same : IsAntisymmetric R) (name : X → List ℕ) (other : (x y : X) → bytes_eq (name x) (name y) ≡ false → eq_by_cmp R (place x) (place y) ≡ false) where
      apart : (x : X) (xs : List X) → AllByRecursion (λ q. bytes_eq (name x) q ≡ false) (map name xs) → AllByRecursion (λ p. eq_by_cmp R (place x) p ≡ false) (map place xs)
      apart x [] all = tt
      apart x (y ∷ ys) all = (other x y all.0, apart x ys all.1)

      pub distinct-places : (xs : List X) → AreDistinct (map name xs) → IsDistinct (eq_by_cmp R) (map place xs)
      unfolding IsDistinct
      distinct-places [] d = tt
      distinct-places (x ∷ xs) d = (apart x xs d.0, distinct-places xs d.1)

      -- what a map of placed items keeps
      module _ (xs : List X) (es : List (K × X)) (d : AreDistinct (map name xs)) (is : es ≡ keyed R place xs) where
        pub facts_kept : by_name name (values_of es) ≡ by_name name xs
        facts_kept =
            ap (λ es. by_name name (values_of es)) is
            ∙ sym (by_name-permutation name xs (in_order R place xs) d (IsPermutation-in_order R o place xs (distinct-places xs d)))

        pub order_kept : values_of es ≡ in_order R place (by_name name (values_of es))
        order_kept =
            ap values_of is
            ∙ in_order-permutation o place same xs (by_name name xs) (distinct-places xs d) (IsPermutation-by_name name xs d)
            ∙ ap (in_order R place) (sym facts_kept)

        pub distinct_kept : IsDistinct (eq_by_cmp R) (map place (by_name name (values_of es)))
        distinct_kept =
            subst (λ ys. IsDistinct (eq_by_cmp R) (map place ys)) (sym facts_kept)
            (IsDistinct-IsPermutation (eq_by_cmp R) (eq_by_cmp_equiv o).symm (map place xs) (map place (by_name name xs))
            (IsPermutation-map place xs (by_name name xs) (IsPermutation-by_name name xs d)) (distinct-places xs d))

-- dates with other names are other places
later : (o p : Ordering) → is_eq p ≡ false → is_eq (ordering_then o p) ≡ false
later Less p h = refl
later Equal p h = h
later Greater p h = refl

pub dated-other : (m n : ℕ) (a b : List ℕ) → bytes_eq a b ≡ false → eq_by_cmp dated_cmp (m, a) (n, b) ≡ false
dated-other m n a b h = later (nat_cmp m n) (bytes_cmp a b) (sym (texts_ties a b) ∙ h)

pub latest-other : (m n : ℕ) (a b : List ℕ) → bytes_eq a b ≡ false → eq_by_cmp latest_first (m, a) (n, b) ≡ false
latest-other m n a b h = later (nat_cmp n m) (bytes_cmp a b) (sym (texts_ties a b) ∙ h)
