-- Facts that a table holds by their names: with one more, without one, and looked up.
use Rattle.std.proofs.Common.{◌≡◌, ℕ, List, [], ◌∷◌, ◌++◌, Bool, true, false, cond, not, ◌||◌, Option, Some, None, is_some, option_map, map, filter, refl, sym, ap, ◌∙◌}
use Rattle.std.specs.Str.{bytes_eq}
use Rattle.std.specs.List.{AllByRecursion, IsDistinct}
use Rattle.std.specs.List.Sorted.{IsStrictlySortedBy}
use Rattle.std.specs.Map.{keys_of}
use Rattle.std.specs.BTreeMap.{insert_entry, is_at}
use Rattle.std.specs.Ordering.{is_eq, match_ordering}
use Rattle.std.specs.declared.cmp.Ordering.TheVariants.{Less, Equal, Greater}
use Rattle.std.specs.Cmp.Lexicographic.{texts_ties, bytes_decides, nat_list_eq_equiv}
use Rattle.std.specs.FinMap.{put}
use Rattle.std.specs.FinMap.Entries.{by_order}
use Rattle.fsl_order.specs.Names.{bytes_cmp, has}
use Rattle.fsl_order.specs.Rows.{keyed, by_name, named, AreDistinct}
use Rattle.fsl_order.proofs.NamedLemmas.{named-by_name}
use Rattle.fsl_order.proofs.Orders.{bytes_cmp-IsAntisymmetric, bytes_cmp-IsTotalOrder}
use Rattle.std.proofs.lemmas.Map.Lookups.{exact_bytes}
use Rattle.fsl_order.proofs.RowLemmas.{is_some-named}
use Rattle.fsl_table.specs.Contents.{value_at, with_entry, without_key}
use Rattle.fsl_table.proofs.Entries.{sorted-insert_entry, sorted-remove_entry}
use Rattle.fsl_table.proofs.Finding.{none_from, same_found, value-with, value-without}

module _ {V F : Type 0} (fact_of : List ℕ × V → F) (name_of : F → List ℕ) (own : (e : List ℕ × V) → name_of (fact_of e) ≡ e.0) where
  abbrev lift : List (List ℕ × V) → List (List ℕ × F)
  lift [] = []
  lift (e ∷ es) = (e.0, fact_of e) ∷ lift es

  put_lift : (k : List ℕ) (v : V) (es : List (List ℕ × V)) → put bytes_cmp k (fact_of (k, v)) (lift es) ≡ lift (insert_entry bytes_cmp es k v)
  put_lift k v [] = refl
  put_lift k v (e ∷ es) =
      elim (bytes_cmp k e.0) as (λ r. bytes_cmp k e.0 ≡ r → by_order r ((k, fact_of (k, v)) ∷ (e.0, fact_of e) ∷ lift es) ((e.0, fact_of (k, v)) ∷ lift es) ((e.0, fact_of e) ∷ put bytes_cmp k (fact_of (k, v)) (lift es)) ≡ lift (match_ordering r ((k, v) ∷ e ∷ es) ((e.0, v) ∷ es) (e ∷ insert_entry bytes_cmp es k v))) [
        | Less ↦ λ _. refl
        | Equal ↦ λ h. λ i. (e.0, fact_of (bytes_cmp-IsAntisymmetric k e.0 h i, v)) ∷ lift es
        | Greater ↦ λ _. ap (λ l. (e.0, fact_of e) ∷ l) (put_lift k v es)
      ] refl

  keyed_lift : (es : List (List ℕ × V)) → IsStrictlySortedBy bytes_cmp (keys_of es) → keyed bytes_cmp name_of (map fact_of es) ≡ lift es
  unfolding IsStrictlySortedBy
  keyed_lift [] h = refl
  keyed_lift (e ∷ es) h = (λ i. put bytes_cmp (own e i) (fact_of e) (keyed_lift es h.1 i)) ∙ front es h.0
    where
      front : (es : List (List ℕ × V)) → AllByRecursion (λ y. bytes_cmp e.0 y ≡ Less) (keys_of es) → put bytes_cmp e.0 (fact_of e) (lift es) ≡ (e.0, fact_of e) ∷ lift es
      front [] h = refl
      front (f ∷ fs) h = ap (λ r. by_order r ((e.0, fact_of e) ∷ (f.0, fact_of f) ∷ lift fs) ((f.0, fact_of e) ∷ lift fs) ((f.0, fact_of f) ∷ put bytes_cmp e.0 (fact_of e) (lift fs))) h.0

  items_lift : (es : List (List ℕ × V)) → map (λ e. e.1) (lift es) ≡ map fact_of es
  items_lift [] = refl
  items_lift (e ∷ es) = ap (λ l. fact_of e ∷ l) (items_lift es)

  -- the facts with one more, by name
  pub facts_with : (k : List ℕ) (v : V) (es : List (List ℕ × V)) → IsStrictlySortedBy bytes_cmp (keys_of es) → map fact_of (with_entry bytes_cmp k v es) ≡ by_name name_of (fact_of (k, v) ∷ map fact_of es)
  facts_with k v es h =
      sym (items_lift (with_entry bytes_cmp k v es))
      ∙ ap (map (λ e. e.1)) (sym (put_lift k v es) ∙ (λ i. put bytes_cmp (sym (own (k, v)) i) (fact_of (k, v)) (sym (keyed_lift es h) i)))

  -- the facts without one
  pub facts_without : (k : List ℕ) (es : List (List ℕ × V)) → IsStrictlySortedBy bytes_cmp (keys_of es) → map fact_of (without_key bytes_cmp k es) ≡ filter (λ f. not (bytes_eq (name_of f) k)) (map fact_of es)
  unfolding IsStrictlySortedBy
  facts_without k [] h = refl
  facts_without k (e ∷ es) h =
      ap (λ b. map fact_of (cond b es (e ∷ without_key bytes_cmp k es))) (sym (texts_ties k e.0) ∙ nat_list_eq_equiv.symm k e.0)
      ∙ elim (bytes_eq e.0 k) as (λ b. bytes_eq e.0 k ≡ b → map fact_of (cond b es (e ∷ without_key bytes_cmp k es)) ≡ cond (not b) (fact_of e ∷ filter (λ f. not (bytes_eq (name_of f) k)) (map fact_of es)) (filter (λ f. not (bytes_eq (name_of f) k)) (map fact_of es))) [
        | true ↦ λ t. sym (all_stay es ((bytes_decides e.0 k).0 t) h.0)
        | false ↦ λ t. ap (λ l. fact_of e ∷ l) (facts_without k es h.1)
      ] refl
      ∙ ap (λ n. cond (not (bytes_eq n k)) (fact_of e ∷ filter (λ f. not (bytes_eq (name_of f) k)) (map fact_of es)) (filter (λ f. not (bytes_eq (name_of f) k)) (map fact_of es))) (sym (own e))
    where
      all_stay : (fs : List (List ℕ × V)) → e.0 ≡ k → AllByRecursion (λ y. bytes_cmp e.0 y ≡ Less) (keys_of fs) → filter (λ f. not (bytes_eq (name_of f) k)) (map fact_of fs) ≡ map fact_of fs
      all_stay [] same all = refl
      all_stay (f ∷ fs) same all =
          let apart : bytes_eq (name_of (fact_of f)) k ≡ false = ap (λ n. bytes_eq n k) (own f) ∙ ap (bytes_eq f.0) (sym same) ∙ nat_list_eq_equiv.symm f.0 e.0 ∙ texts_ties e.0 f.0 ∙ ap is_eq all.0 in
          (λ i. cond (not (apart i)) (fact_of f ∷ filter (λ f. not (bytes_eq (name_of f) k)) (map fact_of fs)) (filter (λ f. not (bytes_eq (name_of f) k)) (map fact_of fs))) ∙ ap (λ l. fact_of f ∷ l) (all_stay fs same all.1)

  -- the fact of a name is that of its entry
  pub named-facts : (es : List (List ℕ × V)) (q : List ℕ) → named name_of (map fact_of es) q ≡ option_map (λ v. fact_of (q, v)) (value_at bytes_cmp q es)
  named-facts [] q = refl
  named-facts (e ∷ es) q =
      (λ i. cond (bytes_eq (own e i) q) (Some (fact_of e)) (named-facts es q i))
      ∙ elim (bytes_eq e.0 q) as (λ b. bytes_eq e.0 q ≡ b → cond b (Some (fact_of e)) (option_map (λ v. fact_of (q, v)) (value_at bytes_cmp q es)) ≡ option_map (λ v. fact_of (q, v)) (cond b (Some e.1) (value_at bytes_cmp q es))) [
        | true ↦ λ h. ap (λ n. Some (fact_of (n, e.1))) ((bytes_decides e.0 q).0 h)
        | false ↦ λ h. refl
      ] refl
      ∙ ap (λ b. option_map (λ v. fact_of (q, v)) (cond b (Some e.1) (value_at bytes_cmp q es))) (nat_list_eq_equiv.symm e.0 q ∙ texts_ties q e.0)

  -- a name stands among the facts exactly where it has an entry
  pub has-facts : (es : List (List ℕ × V)) (q : List ℕ) → has (map name_of (map fact_of es)) q ≡ is_some (value_at bytes_cmp q es)
  has-facts es q = sym (is_some-named name_of (map fact_of es) q) ∙ ap is_some (named-facts es q) ∙ mapped (value_at bytes_cmp q es)
    where
      mapped : (r : Option V) → is_some (option_map (λ v. fact_of (q, v)) r) ≡ is_some r
      mapped None = refl
      mapped (Some v) = refl

  pub absent-entry : (es : List (List ℕ × V)) (q : List ℕ) → has (map name_of (map fact_of es)) q ≡ false → value_at bytes_cmp q es ≡ None
  absent-entry es q h = none_from (value_at bytes_cmp q es) (sym (has-facts es q) ∙ h)

  -- entries are told by their facts
  module _ (rest_of : F → V) (back : (e : List ℕ × V) → rest_of (fact_of e) ≡ e.1) where
    entries_of : List F → List (List ℕ × V)
    entries_of [] = []
    entries_of (f ∷ fs) = (name_of f, rest_of f) ∷ entries_of fs

    entries-facts : (es : List (List ℕ × V)) → entries_of (map fact_of es) ≡ es
    unfolding entries_of
    entries-facts [] = refl
    entries-facts (e ∷ es) = λ i. (own e i, back e i) ∷ entries-facts es i

    pub same_facts : (es fs : List (List ℕ × V)) → map fact_of es ≡ map fact_of fs → es ≡ fs
    same_facts es fs h = sym (entries-facts es) ∙ ap entries_of h ∙ entries-facts fs

-- ---- a fact in the place of another
module _ {V : Type 0} where
  pub none-without : (k : List ℕ) (es : List (List ℕ × V)) → IsStrictlySortedBy bytes_cmp (keys_of es) → value_at bytes_cmp k (without_key bytes_cmp k es) ≡ None
  none-without k es sorted = value-without k es sorted k ∙ ap (λ b. cond b None (value_at bytes_cmp k es)) (nat_list_eq_equiv.refl k)

  -- what is put where the key was taken out is put over it
  pub with-without : (k : List ℕ) (v : V) (es : List (List ℕ × V)) → IsStrictlySortedBy bytes_cmp (keys_of es) → with_entry bytes_cmp k v (without_key bytes_cmp k es) ≡ with_entry bytes_cmp k v es
  with-without k v es sorted =
      let less = sorted-remove_entry bytes_cmp-IsTotalOrder (is_at (bytes_cmp k)) es sorted in
      same_found bytes_cmp bytes_cmp-IsTotalOrder exact_bytes _ _ (sorted-insert_entry bytes_cmp-IsTotalOrder k v _ less) (sorted-insert_entry bytes_cmp-IsTotalOrder k v es sorted)
      (λ q. value-with k v (without_key bytes_cmp k es) q ∙ ap (cond (bytes_eq q k) (Some v)) (value-without k es sorted q) ∙ over (bytes_eq q k) (value_at bytes_cmp q es) ∙ sym (value-with k v es q))
    where
      over : (b : Bool) (r : Option V) → cond b (Some v) (cond b None r) ≡ cond b (Some v) r
      over true r = refl
      over false r = refl

-- ---- a fact more before those that are there already
module _ {F : Type 0} (name_of : F → List ℕ) where
  none_has : (q : List ℕ) (ns : List (List ℕ)) → AllByRecursion (λ n. bytes_eq q n ≡ false) ns → has ns q ≡ false
  none_has q [] h = refl
  none_has q (n ∷ ns) h = (λ i. h.0 i || has ns q) ∙ none_has q ns h.1

  pub absent_before : (f : F) (fs : List F) → AreDistinct (map name_of (f ∷ fs)) → has (map name_of (by_name name_of fs)) (name_of f) ≡ false
  unfolding IsDistinct
  absent_before f fs d =
      sym (is_some-named name_of (by_name name_of fs) (name_of f)) ∙ ap is_some (named-by_name name_of fs (name_of f))
      ∙ is_some-named name_of fs (name_of f) ∙ none_has (name_of f) (map name_of fs) d.0

  pub distinct_rear : (xs ys : List F) → AreDistinct (map name_of (xs ++ ys)) → AreDistinct (map name_of ys)
  unfolding IsDistinct
  distinct_rear [] ys d = d
  distinct_rear (x ∷ xs) ys d = distinct_rear xs ys d.1
