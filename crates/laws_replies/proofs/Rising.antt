-- Ascending names differ, so they are no more than a list that has them all.
use Rattle.std.specs.Prelude.{◌≡◌, ℕ, ◌≤◌, ◌&&◌, Bool, true, false, T, List, [], ◌∷◌, length, map}
use Rattle.std.proofs.Common.{refl, sym, subst, ◌∙◌}
use Rattle.std.specs.declared.cmp.Ordering.{Ordering}
use Rattle.std.specs.declared.cmp.Ordering.TheVariants.{Less, Equal, Greater}
use Rattle.std.specs.Ordering.{eq_by_cmp, is_lt}
use Rattle.std.specs.List.{AllByRecursion, IsDistinct}
use Rattle.std.specs.List.Sorted.{IsStrictlySortedBy}
use Rattle.std.specs.Str.{bytes_eq}
use Rattle.std.specs.Cmp.Lexicographic.{texts_ties, nat_list_eq_equiv}
use Rattle.std.specs.FinMap.{is_sorted}
use Rattle.std.specs.FinMap.Entries.{below_all}
use Rattle.std.proofs.lemmas.Map.Keys.{IsDistinct-from_sorted}
use Rattle.std.proofs.lemmas.Map.Made.{length-le_from_is_member}
use Rattle.fsl_order.specs.Names.{bytes_cmp, has}
use Rattle.fsl_order.specs.Rows.{keyed, ascending}
use Rattle.fsl_order.proofs.Orders.{bytes_cmp-IsTotalOrder}
use Rattle.fsl_order.proofs.RowLemmas.{is_sorted-keyed}
use Rattle.fsl_order.proofs.AscendingLemmas.{has-ascending, itself, Twins-keyed, twin_parts}

first : (a b : Bool) → T (a && b) → T a
first true b p = tt
first false b p = p

second : (a b : Bool) → T (a && b) → T b
second true b p = p
second false b p = absurd p

less_is : (o : Ordering) → T (is_lt o) → o ≡ Less
less_is Less p = refl
less_is Equal p = absurd p
less_is Greater p = absurd p

below : (q : List ℕ) (es : List (List ℕ × List ℕ)) → T (below_all bytes_cmp q es) → AllByRecursion (λ y. bytes_cmp q y ≡ Less) (map (λ e. e.0) es)
below q [] h = tt
below q (e ∷ es) h = (less_is (bytes_cmp q e.0) (first (is_lt (bytes_cmp q e.0)) (below_all bytes_cmp q es) h), below q es (second (is_lt (bytes_cmp q e.0)) (below_all bytes_cmp q es) h))

keys_rise : (es : List (List ℕ × List ℕ)) → T (is_sorted bytes_cmp es) → IsStrictlySortedBy bytes_cmp (map (λ e. e.0) es)
unfolding IsStrictlySortedBy
keys_rise [] h = tt
keys_rise (e ∷ es) h = (below e.0 es (first (below_all bytes_cmp e.0 es) (is_sorted bytes_cmp es) h), keys_rise es (second (below_all bytes_cmp e.0 es) (is_sorted bytes_cmp es) h))

rises : (names : List (List ℕ)) → IsStrictlySortedBy bytes_cmp (ascending names)
rises names =
    let es = keyed bytes_cmp itself names in
    subst (IsStrictlySortedBy bytes_cmp) (sym (twin_parts es (Twins-keyed names))) (keys_rise es (is_sorted-keyed bytes_cmp-IsTotalOrder itself names))

differ : (names : List (List ℕ)) → IsDistinct bytes_eq (ascending names)
differ names =
    let ties : eq_by_cmp bytes_cmp ≡ bytes_eq = λ i x y. sym (texts_ties x y) i in
    subst (λ e. IsDistinct e (ascending names)) ties (IsDistinct-from_sorted bytes_cmp (ascending names) (rises names))

pub no_more : (names more : List (List ℕ)) → ((q : List ℕ) → has names q ≡ true → has more q ≡ true) → length (ascending names) ≤ length more
no_more names more among =
    length-le_from_is_member nat_list_eq_equiv (ascending names) more (differ names) (λ q e. among q (sym (has-ascending names q) ∙ e))
