-- Names that rise.
use Rattle.std.specs.Prelude.{◌≡◌, ℕ, ◌&&◌, Bool, true, false, T, List, [], ◌∷◌, map, filter, find, flat_map, not, cond, Some}
use Rattle.std.proofs.Common.{refl, sym, ap, subst, ◌∙◌}
use Rattle.std.specs.List.{AllByRecursion}
use Rattle.std.specs.List.Sorted.{IsStrictlySortedBy}
use Rattle.std.specs.declared.cmp.Ordering.{Ordering}
use Rattle.std.specs.declared.cmp.Ordering.TheVariants.{Less, Equal, Greater}
use Rattle.std.specs.Ordering.{is_lt}
use Rattle.std.specs.FinMap.{is_sorted}
use Rattle.std.specs.FinMap.Entries.{below_all}
use Rattle.std.specs.FinSet as set
use Rattle.std.proofs.lemmas.List.Kept.{IsStrictlySortedBy-filter}
use Rattle.fsl_order.specs.Names.{bytes_cmp, has}
use Rattle.fsl_order.specs.Rows.{keyed, ascending}
use Rattle.fsl_order.proofs.Orders.{bytes_cmp-IsTotalOrder}
use Rattle.fsl_order.proofs.RowLemmas.{is_sorted-keyed}
use Rattle.fsl_order.proofs.AscendingLemmas.{has-ascending, itself, Twins-keyed, twin_parts}
use Rattle.fsl_cluster.specs.declared.Fact.{Fact}
use Rattle.fsl_cluster.specs.Clusters.{names, missing}
use Rattle.fsl_cross.specs.declared.Item.{Item}
use Rattle.fsl_cross.specs.Facts.{cluster_fact}
use Rattle.fsl_blobs.specs.Fold.{Contents}
use Rattle.fsl_repo.specs.Machine.{wants}

first : (a b : Bool) → T (a && b) → T a
first true b p = tt
first false b p = p

second : (a b : Bool) → T (a && b) → T b
second true b p = p
second false b p = absurd p

less_is : (o : Ordering) → T (is_lt o) → o ≡ Less
less_is Less p = refl
less_is Equal p = absurd p
less_is Greater p = absurd p

below : (q : List ℕ) (es : List (List ℕ × List ℕ)) → T (below_all bytes_cmp q es) → AllByRecursion (λ y. bytes_cmp q y ≡ Less) (map (λ e. e.0) es)
below q [] h = tt
below q (e ∷ es) h = (less_is (bytes_cmp q e.0) (first (is_lt (bytes_cmp q e.0)) (below_all bytes_cmp q es) h), below q es (second (is_lt (bytes_cmp q e.0)) (below_all bytes_cmp q es) h))

sorted_keys : (es : List (List ℕ × List ℕ)) → T (is_sorted bytes_cmp es) → IsStrictlySortedBy bytes_cmp (map (λ e. e.0) es)
unfolding IsStrictlySortedBy
sorted_keys [] h = tt
sorted_keys (e ∷ es) h = (below e.0 es (first (below_all bytes_cmp e.0 es) (is_sorted bytes_cmp es) h), sorted_keys es (second (below_all bytes_cmp e.0 es) (is_sorted bytes_cmp es) h))

-- ascending names rise
pub ascending_rises : (names : List (List ℕ)) → IsStrictlySortedBy bytes_cmp (ascending names)
ascending_rises names =
    let es = keyed bytes_cmp itself names in
    subst (IsStrictlySortedBy bytes_cmp) (sym (twin_parts es (Twins-keyed names))) (sorted_keys es (is_sorted-keyed bytes_cmp-IsTotalOrder itself names))

-- and so do those of them that pass
pub filtered_rises : (p : List ℕ → Bool) (names : List (List ℕ)) → IsStrictlySortedBy bytes_cmp (filter p (ascending names))
filtered_rises p names = IsStrictlySortedBy-filter bytes_cmp p (ascending names) (ascending_rises names)

-- the wanted names rise
pub wants_rise : (c : Contents) (items : List Item) → IsStrictlySortedBy bytes_cmp (wants c items)
wants_rise c items = IsStrictlySortedBy-filter bytes_cmp (λ name. not (has (set.items c.shunned) name)) (missing (map cluster_fact items)) (missing_rises (map cluster_fact items))
  where
    missing_rises : (facts : List Fact) → IsStrictlySortedBy bytes_cmp (missing facts)
    missing_rises facts = ascending_rises (filter (λ name. not (has (names facts) name)) (flat_map (λ f. f.refs) facts))

-- a name is found among names in order as it is among them
pub found_ascending : (told names : List (List ℕ)) → names ≡ ascending told → (next : List (List ℕ)) → find (has names) next ≡ find (has told) next
found_ascending told names is [] = refl
found_ascending told names is (x ∷ next) =
    λ i. cond ((ap (λ (ns : List (List ℕ)). has ns x) is ∙ has-ascending told x) i) (Some x) (found_ascending told names is next i)
