-- What each change of a table's parts keeps, and what it does to the whole.
use Rattle.std.proofs.Common.{◌≡◌, ℕ, ◌+◌, ◌<◌, ◌≤◌, List, [], ◌∷◌, ◌++◌, length, get_or, set, refl, sym, ap, subst, ◌∙◌, arith, length-set, if◌then◌else◌}
use Rattle.std.specs.declared.option.Option.{Option}
use Rattle.std.specs.declared.option.Option.TheVariants.{Some, None}
use Rattle.std.specs.declared.cmp.Ordering.{Ordering}
use Rattle.std.specs.Option.{is_some}
use Rattle.std.specs.Cmp.{IsTotalOrder}
use Rattle.std.specs.List.{remove}
use Rattle.std.specs.List.Sorted.{IsStrictlySortedBy}
use Rattle.std.specs.Map.{lookup, remove_entry, keys_of}
use Rattle.std.specs.BTreeMap.{is_at, insert_entry}
use Rattle.fsl_table.specs.Weave.{weave, IsApart, place}
use Rattle.fsl_table.specs.Kept.{IsKept}
use Rattle.std.proofs.lemmas.List.{length-append}
use Rattle.fsl_table.proofs.Entries.{sorted-insert_entry, sorted-remove_entry, length-remove_entry, length-insert_entry}
use Rattle.fsl_table.proofs.Places.{Stands, place_some, place_none}
use Rattle.fsl_table.proofs.Weaving.{weave-insert_entry, weave-remove_entry, weave-set_value, weave-remove_waiting, apart-insert_entry, apart-remove_entry, apart-set_value, apart-remove_waiting, weave-last, absent-last, apart-last}

pub fits_after : {X : Type 0} (before : Option X) (n m l room : ℕ) → m ≡ n + (if is_some before then 0 else 1) → (before ≡ None → n + l < room) → n + l ≤ room → m + l ≤ room
fits_after None n m l room h free fits = let f = free refl in omega (arith, f)
fits_after (Some x) n m l room h free fits = omega arith

module _ {K X : Type 0} {R : K → K → Ordering} (o : IsTotalOrder R) where
  pub kept-remove_place : (k : K) (w t : List (K × X)) (room i : ℕ) (d : K × X) → place (is_at (R k)) w ≡ Some i → IsKept R room w t → IsKept R room (remove w i) t
  kept-remove_place k w t room i d p kept =
      let s : Stands (is_at (R k)) w i = place_some (is_at (R k)) w i p in
      let shorter : length (remove_entry (is_at (R k)) w) + 1 ≡ length w = length-remove_entry o k (get_or w i d).1 w (s.value d) in
      subst (λ l. IsKept R room l t) (sym s.removed) (record {
        fits = omega (arith, kept.fits, shorter);
        ordered = kept.ordered;
        apart = apart-remove_waiting o k w t (get_or w i d).1 kept.ordered (s.value d) kept.apart;
      })

  pub weave-remove_place : (k : K) (w t : List (K × X)) (room i : ℕ) (d : K × X) → place (is_at (R k)) w ≡ Some i → IsKept R room w t → weave R (remove w i) t ≡ remove_entry (is_at (R k)) (weave R w t)
  weave-remove_place k w t room i d p kept =
      let s : Stands (is_at (R k)) w i = place_some (is_at (R k)) w i p in
      ap (λ l. weave R l t) s.removed ∙ weave-remove_waiting o k w t (get_or w i d).1 kept.ordered kept.apart (s.value d)

  pub kept-remove_tree : (k : K) (w t u : List (K × X)) (room : ℕ) → place (is_at (R k)) w ≡ None → u ≡ remove_entry (is_at (R k)) t → length u ≤ length t → IsKept R room w t → IsKept R room w u
  kept-remove_tree k w t u room p e shorter kept = record {
    fits = omega (arith, kept.fits, shorter);
    ordered = subst (λ l. IsStrictlySortedBy R (keys_of l)) (sym e) (sorted-remove_entry o (is_at (R k)) t kept.ordered);
    apart = subst (λ l. IsApart R w l) (sym e) (apart-remove_entry o k w t kept.ordered (place_none (is_at (R k)) w p) kept.apart);
  }

  pub weave-remove_tree : (k : K) (w t u : List (K × X)) (room : ℕ) → place (is_at (R k)) w ≡ None → u ≡ remove_entry (is_at (R k)) t → IsKept R room w t → weave R w u ≡ remove_entry (is_at (R k)) (weave R w t)
  weave-remove_tree k w t u room p e kept = ap (λ l. weave R w l) e ∙ weave-remove_entry o k w t kept.ordered (place_none (is_at (R k)) w p)

  pub kept-set_place : (k : K) (v : X) (w u t : List (K × X)) (room i : ℕ) (d : K × X) → place (is_at (R k)) w ≡ Some i → u ≡ set w i ((get_or w i d).0, v) → IsKept R room w t → IsKept R room u t
  kept-set_place k v w u t room i d p e kept =
      let s : Stands (is_at (R k)) w i = place_some (is_at (R k)) w i p in
      let same : length u ≡ length w = ap length e ∙ length-set w i ((get_or w i d).0, v) in
      record {
        fits = omega (arith, kept.fits, same);
        ordered = kept.ordered;
        apart = subst (λ l. IsApart R l t) (sym (e ∙ s.written d v)) (apart-set_value o k v w t (get_or w i d).1 (s.value d) kept.apart);
      }

  pub weave-set_place : (k : K) (v : X) (w u t : List (K × X)) (i : ℕ) (d : K × X) → place (is_at (R k)) w ≡ Some i → u ≡ set w i ((get_or w i d).0, v) → weave R u t ≡ insert_entry R (weave R w t) k v
  weave-set_place k v w u t i d p e =
      let s : Stands (is_at (R k)) w i = place_some (is_at (R k)) w i p in
      ap (λ l. weave R l t) (e ∙ s.written d v) ∙ weave-set_value o k v w t (get_or w i d).1 (s.value d)

  pub kept-insert : (k : K) (v : X) (w t u : List (K × X)) (room more : ℕ) → place (is_at (R k)) w ≡ None → u ≡ insert_entry R t k v → length u + length w ≤ more → IsKept R room w t → IsKept R more w u
  kept-insert k v w t u room more p e fits kept = record {
    fits = fits;
    ordered = subst (λ l. IsStrictlySortedBy R (keys_of l)) (sym e) (sorted-insert_entry o k v t kept.ordered);
    apart = subst (λ l. IsApart R w l) (sym e) (apart-insert_entry o k v w t (place_none (is_at (R k)) w p) kept.apart);
  }

  pub weave-insert : (k : K) (v : X) (w t u : List (K × X)) → place (is_at (R k)) w ≡ None → u ≡ insert_entry R t k v → weave R w u ≡ insert_entry R (weave R w t) k v
  weave-insert k v w t u p e = ap (λ l. weave R w l) e ∙ weave-insert_entry o k v w t (place_none (is_at (R k)) w p)

  pub kept-more : (w t : List (K × X)) (room more : ℕ) → room ≤ more → IsKept R room w t → IsKept R more w t
  kept-more w t room more h kept = record { fits = omega (arith, kept.fits); ordered = kept.ordered; apart = kept.apart }

  pub kept-wait : (e : K × X) (w t : List (K × X)) (room more : ℕ) → lookup (is_at (R e.0)) (weave R w t) ≡ None → length t + length w < more → IsKept R room w t → IsKept R more (e ∷ w) t
  kept-wait e w t room more none h kept = record { fits = omega arith; ordered = kept.ordered; apart = (none, kept.apart) }

  -- the last of what waits, once it is in the tree
  pub kept-settled : (e : K × X) (w t u : List (K × X)) (room : ℕ) → u ≡ insert_entry R t e.0 e.1 → IsKept R room (w ++ e ∷ []) t → IsKept R room w u
  kept-settled e w t u room is kept =
      let absent = absent-last o w e t kept.apart in
      let longer = length-insert_entry o e.0 e.1 t absent in
      let count = length-append w (e ∷ []) in
      let same = ap length is in
      record {
        fits = omega (arith, kept.fits, longer, count, same);
        ordered = subst (λ l. IsStrictlySortedBy R (keys_of l)) (sym is) (sorted-insert_entry o e.0 e.1 t kept.ordered);
        apart = subst (λ l. IsApart R w l) (sym is) (apart-last o w e t kept.apart);
      }

  pub weave-settled : (e : K × X) (w t u : List (K × X)) → u ≡ insert_entry R t e.0 e.1 → weave R w u ≡ weave R (w ++ e ∷ []) t
  weave-settled e w t u is = ap (λ l. weave R w l) is ∙ sym (weave-last o w e t)

  pub count-settled : (e : K × X) (w t u : List (K × X)) (room : ℕ) → u ≡ insert_entry R t e.0 e.1 → IsKept R room (w ++ e ∷ []) t → length u + length w ≡ length t + length (w ++ e ∷ [])
  count-settled e w t u room is kept =
      let longer = length-insert_entry o e.0 e.1 t (absent-last o w e t kept.apart) in
      let count = length-append w (e ∷ []) in
      let same = ap length is in
      omega (arith, longer, count, same)
