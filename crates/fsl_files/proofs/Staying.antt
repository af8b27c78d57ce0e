-- Which rows a check-in changes.
use Rattle.std.proofs.Common.{◌≡◌, ◌≢◌, ℕ, List, [], ◌∷◌, Bool, true, false, cond, not, ◌||◌, ◌&&◌, Option, Some, None, option_map, option_and_then, refl, sym, ap, subst, ◌∙◌}
use mathlib.Core.Bool.{true≢false}
use Rattle.std.specs.Bool.{MatchBool}
use Rattle.std.specs.List.{list_any}
use Rattle.std.specs.List.Sorted.{IsStrictlySortedBy}
use Rattle.std.specs.Option.{option_map_or, option_zip}
use Rattle.std.specs.Str.{bytes_eq}
use Rattle.std.specs.Cmp.Lexicographic.{bytes_decides, nat_list_eq_equiv}
use Rattle.fsl_order.specs.Names.{bytes_cmp, has}
use Rattle.fsl_order.specs.Rows.{ListsChanged}
use Rattle.fsl_table.specs.Contents.{value_at, with_entry}
use Rattle.fsl_table.specs.Pairs.{is_name, seconds}
use Rattle.fsl_table.proofs.Finding.{value-with}
use Rattle.fsl_files.specs.declared.Listing.TheVariants.{NotCheckin, Known}
use Rattle.fsl_files.specs.declared.entry.Entry.{Entry}
use Rattle.fsl_files.specs.Files.{known, differences, files_row}
use Rattle.fsl_files.specs.Kept.{Lines, Pairs, AreOf, baseline_at, parent_at, facts_of, is_touched}
use Rattle.fsl_files.specs.At.{over_entry, listing_at, files_at, changes_at}
use Rattle.fsl_files.specs.Same.{is_same_row}
use Rattle.fsl_files.proofs.Deciding.{same_row-decides}
use Rattle.fsl_files.proofs.Linked.{has-of}
use Rattle.fsl_files.proofs.Reading.{row-at}

pub or_left : (a b : Bool) → (a || b) ≡ false → a ≡ false
or_left true b h = h
or_left false b h = refl

pub or_right : (a b : Bool) → (a || b) ≡ false → b ≡ false
or_right true b h = absurd (true≢false h)
or_right false b h = h

-- a test that no name of a list passes fails at each of them
none_at : (f : List ℕ → Bool) (names : List (List ℕ)) (p : List ℕ) → has names p ≡ true → list_any f names ≡ false → f p ≡ false
none_at f [] p h n = absurd (true≢false (sym h))
none_at f (x ∷ names) p h n =
    elim (bytes_eq p x) as (λ b. bytes_eq p x ≡ b → (b || has names p) ≡ true → f p ≡ false) [
      | true ↦ λ e _. ap f ((bytes_decides p x).0 e) ∙ or_left (f x) (list_any f names) n
      | false ↦ λ _ k. none_at f names p k (or_right (f x) (list_any f names) n)
    ] refl h

module _ (es : Lines) (name : List ℕ) (e : Entry) where
  abbrev new : Lines
  new = with_entry bytes_cmp name e es

  at_other : (q : List ℕ) → bytes_eq q name ≡ false → value_at bytes_cmp q es ≡ value_at bytes_cmp q new
  at_other q h = sym (value-with name e es q ∙ ap (λ b. cond b (Some e) (value_at bytes_cmp q es)) h)

  listing_stays : (v : Entry) → is_name v.baseline name ≡ false → listing_at es v ≡ listing_at new v
  listing_stays v h = by v.baseline h
    where
      by : (s : Option (List ℕ)) → is_name s name ≡ false → option_map_or (λ b. over_entry v.files (value_at bytes_cmp b es)) s (Known v.files) ≡ option_map_or (λ b. over_entry v.files (value_at bytes_cmp b new)) s (Known v.files)
      by None h = refl
      by (Some b) h = ap (over_entry v.files) (at_other b h)

  -- the files of a name that is another, and whose baseline is
  files_stay : (q : List ℕ) → bytes_eq q name ≡ false → is_name (baseline_at es q) name ≡ false → files_at es q ≡ files_at new q
  files_stay q n h = by (value_at bytes_cmp q es) h ∙ ap (λ o. option_map_or (listing_at new) o NotCheckin) (at_other q n)
    where
      by : (o : Option Entry) → is_name (option_and_then (λ v. v.baseline) o) name ≡ false → option_map_or (listing_at es) o NotCheckin ≡ option_map_or (listing_at new) o NotCheckin
      by None h = refl
      by (Some v) h = listing_stays v h

  -- its changes, where its primary parent and the baseline of that are others too
  changes_stay : (q : List ℕ) → bytes_eq q name ≡ false → is_name (baseline_at es q) name ≡ false → is_name (parent_at es q) name ≡ false
      → is_name (option_and_then (baseline_at es) (parent_at es q)) name ≡ false → changes_at es q ≡ changes_at new q
  changes_stay q n b p g = λ i. option_map (λ lists. differences lists.0 lists.1) (option_zip (old i) (known (files_stay q n b i)))
    where
      by : (s : Option (List ℕ)) → is_name s name ≡ false → is_name (option_and_then (baseline_at es) s) name ≡ false → option_and_then (λ up. known (files_at es up)) s ≡ option_and_then (λ up. known (files_at new up)) s
      by None h k = refl
      by (Some up) h k = ap known (files_stay up h k)

      old : option_and_then (λ up. known (files_at es up)) (parent_at es q) ≡ option_and_then (λ up. known (files_at new up)) (parent_at new q)
      old = by (parent_at es q) p g ∙ ap (λ o. option_and_then (λ up. known (files_at new up)) (option_and_then (λ v. v.parent) o)) (at_other q n)

  module _ (deltas children : Pairs) (of_deltas : AreOf (baseline_at es) deltas) (of_children : AreOf (parent_at es) children) where
    -- the baseline of the primary parent is another
    grand : (q : List ℕ) → list_any (λ up. has (seconds up children) q) (seconds name deltas) ≡ false → is_name (option_and_then (baseline_at es) (parent_at es q)) name ≡ false
    grand q none = by (parent_at es q) refl
      where
        by : (s : Option (List ℕ)) → parent_at es q ≡ s → is_name (option_and_then (baseline_at es) s) name ≡ false
        by None h = refl
        by (Some p) h =
            elim (is_name (baseline_at es p) name) as (λ b. is_name (baseline_at es p) name ≡ b → b ≡ false) [
              | true ↦ λ t.
                  let among : has (seconds name deltas) p ≡ true = has-of (baseline_at es) deltas name p of_deltas ∙ t in
                  let child : has (seconds p children) q ≡ true = has-of (parent_at es) children p q of_children ∙ ap (λ s. is_name s p) h ∙ nat_list_eq_equiv.refl p in
                  sym child ∙ none_at (λ up. has (seconds up children) q) (seconds name deltas) p among none
              | false ↦ λ _. refl
            ] refl

    row_stays : (q : List ℕ) → bytes_eq q name ≡ false → is_touched deltas children name q ≡ false → files_row (facts_of es) q ≡ files_row (facts_of new) q
    row_stays q n h =
        let below = list_any (λ up. has (seconds up children) q) (seconds name deltas) in
        let beside : (has (seconds name children) q || has (seconds name deltas) q) ≡ false = or_right below (has (seconds name children) q || has (seconds name deltas) q) h in
        let b : is_name (baseline_at es q) name ≡ false = sym (has-of (baseline_at es) deltas name q of_deltas) ∙ or_right (has (seconds name children) q) (has (seconds name deltas) q) beside in
        let p : is_name (parent_at es q) name ≡ false = sym (has-of (parent_at es) children name q of_children) ∙ or_left (has (seconds name children) q) (has (seconds name deltas) q) beside in
        let g = grand q (or_left below (has (seconds name children) q || has (seconds name deltas) q) h) in
        row-at es q ∙ (λ i. (files_stay q n b i, changes_stay q n b p g i)) ∙ sym (row-at new q)

    abbrev Differ : List ℕ → Bool → Type 0
    Differ q b = MatchBool b (files_row (facts_of es) q ≢ files_row (facts_of new) q) (files_row (facts_of es) q ≡ files_row (facts_of new) q)

    by : (q : List ℕ) (b t s : Bool) → bytes_eq q name ≡ b → is_touched deltas children name q ≡ t → is_same_row es new q ≡ s → Differ q ((b || t) && not s)
    by q true t true eb et es_ = (same_row-decides es new q).0 es_
    by q true t false eb et es_ = λ r. true≢false (sym ((same_row-decides es new q).1 r) ∙ es_)
    by q false true true eb et es_ = (same_row-decides es new q).0 es_
    by q false true false eb et es_ = λ r. true≢false (sym ((same_row-decides es new q).1 r) ∙ es_)
    by q false false s eb et es_ = row_stays q eb et

    -- of the name and those that it touches, those whose rows aren't the same are all that differ
    pub lists_changed : (changed : List (List ℕ)) → IsStrictlySortedBy bytes_cmp changed
        → ((q : List ℕ) → has changed q ≡ ((bytes_eq q name || is_touched deltas children name q) && not (is_same_row es new q)))
        → ListsChanged (files_row (facts_of es)) (files_row (facts_of new)) changed
    lists_changed changed rising same = record {
      rising = rising;
      differ = λ q. subst (Differ q) (sym (same q)) (by q (bytes_eq q name) (is_touched deltas children name q) (is_same_row es new q) refl refl refl);
    }
