-- Whether a name is in a list of a fact: among the facts and among the pairs, with one fact more, with one less, and with another in the place of one.
use Rattle.std.proofs.Common.{◌≡◌, ℕ, List, [], ◌∷◌, Bool, true, false, cond, not, ◌||◌, ◌&&◌, Option, Some, None, is_some, option_and_then, refl, sym, ap, ◌∙◌}
use mathlib.Core.Bool.{true≢false}
use Rattle.std.specs.Str.{bytes_eq}
use Rattle.std.specs.Ordering.{is_eq}
use Rattle.std.specs.BTreeMap.{is_at}
use Rattle.std.specs.List.Sorted.{IsStrictlySortedBy}
use Rattle.std.specs.Map.{keys_of}
use Rattle.std.specs.Cmp.Lexicographic.{texts_ties, bytes_decides, nat_list_eq_equiv}
use Rattle.std.proofs.lemmas.Bool.{or_right}
use Rattle.fsl_order.specs.Names.{bytes_cmp, has}
use Rattle.fsl_order.proofs.Orders.{bytes_cmp-IsTotalOrder}
use Rattle.fsl_table.specs.declared.key.Pair.{Pair}
use Rattle.fsl_table.specs.Exact.{pair_cmp}
use Rattle.fsl_table.specs.Contents.{value_at, with_entry, without_key, first_of}
use Rattle.fsl_table.specs.Pairs.{is_name, seconds}
use Rattle.fsl_table.proofs.Entries.{none_above, sorted-insert_entry, sorted-remove_entry}
use Rattle.fsl_table.proofs.Finding.{value-with, value-without}
use Rattle.fsl_table.proofs.Finds.{Finds, same_finds}
use Rattle.fsl_table.proofs.Seconds.{has_seconds}
use Rattle.fsl_cluster.specs.declared.entry.Entry.{Entry}
use Rattle.fsl_cluster.specs.Kept.{Entries, ArePairs, lists, is_listed, is_named}

abbrev pub Sorted : Entries → Type 0
Sorted es = IsStrictlySortedBy bytes_cmp (keys_of es)

-- whether there is a first name
first_found : (ks : List (List ℕ)) → is_some (first_of ks) ≡ true → (c : List ℕ) × (has ks c ≡ true)
first_found [] h = absurd (true≢false (sym h))
first_found (k ∷ ks) h = (k, ap (λ b. b || has ks k) (nat_list_eq_equiv.refl k))

first_there : (ks : List (List ℕ)) (c : List ℕ) → has ks c ≡ true → is_some (first_of ks) ≡ true
first_there [] c h = absurd (true≢false (sym h))
first_there (k ∷ ks) c h = refl

module _ (f : Entry → List (List ℕ)) where
  not_none : (o : Option Entry) (q : List ℕ) → o ≡ None → lists f o q ≡ true → ⊥
  not_none None q e h = true≢false (sym h)
  not_none (Some l) q e h = cc

  listed_found : (es : Entries) → Sorted es → (q : List ℕ) → is_listed f es q ≡ true → (c : List ℕ) × (lists f (value_at bytes_cmp c es) q ≡ true)
  unfolding IsStrictlySortedBy
  listed_found [] sorted q h = absurd (true≢false (sym h))
  listed_found (e ∷ es) sorted q h = by (λ k. listed_found es sorted.1 q k) (has (f e.1) q) refl h
    where
      other : (c : List ℕ) (s : Bool) → bytes_eq c e.0 ≡ s → lists f (value_at bytes_cmp c es) q ≡ true → lists f (cond s (Some e.1) (value_at bytes_cmp c es)) q ≡ true
      other c true s h = absurd (not_none (value_at bytes_cmp c es) q (ap (λ n. value_at bytes_cmp n es) ((bytes_decides c e.0).0 s) ∙ none_above bytes_cmp-IsTotalOrder e.0 es sorted.0) h)
      other c false s h = h

      by : (is_listed f es q ≡ true → (c : List ℕ) × (lists f (value_at bytes_cmp c es) q ≡ true)) → (k : Bool) → has (f e.1) q ≡ k → (k || is_listed f es q) ≡ true → (c : List ℕ) × (lists f (value_at bytes_cmp c (e ∷ es)) q ≡ true)
      by rest true k h = (e.0, ap (λ s. lists f (cond s (Some e.1) (value_at bytes_cmp e.0 es)) q) (sym (texts_ties e.0 e.0) ∙ nat_list_eq_equiv.refl e.0) ∙ k)
      by rest false k h =
          let r = rest h in
          (r.0, ap (λ s. lists f (cond s (Some e.1) (value_at bytes_cmp r.0 es)) q) (sym (texts_ties r.0 e.0)) ∙ other r.0 (bytes_eq r.0 e.0) refl r.1)

  listed_there : (es : Entries) (q c : List ℕ) → lists f (value_at bytes_cmp c es) q ≡ true → is_listed f es q ≡ true
  listed_there [] q c h = absurd (true≢false (sym h))
  listed_there (e ∷ es) q c h = by (λ k. listed_there es q c k) (is_eq (bytes_cmp c e.0)) h
    where
      by : (lists f (value_at bytes_cmp c es) q ≡ true → is_listed f es q ≡ true) → (s : Bool) → lists f (cond s (Some e.1) (value_at bytes_cmp c es)) q ≡ true → (has (f e.1) q || is_listed f es q) ≡ true
      by rest true h = ap (λ x. x || is_listed f es q) h
      by rest false h = or_right (has (f e.1) q) (is_listed f es q) (rest h)

  finds_listed : (es : Entries) → Sorted es → (q : List ℕ) → Finds (is_listed f es q) (λ c. lists f (value_at bytes_cmp c es) q)
  finds_listed es sorted q = record { found = listed_found es sorted q; there = listed_there es q }

  -- among the pairs it is the same
  pub named_is : (es : Entries) (ps : List (Pair × Unit {0})) → Sorted es → ArePairs f es ps → (q : List ℕ) → is_named ps q ≡ is_listed f es q
  named_is es ps sorted pairs q =
      same_finds (is_named ps q) (is_listed f es q) _ _ (record { found = first_found (seconds q ps); there = first_there (seconds q ps) }) (finds_listed es sorted q)
      (λ c. has_seconds q c ps ∙ pairs (record { first = q; second = Some c }))

  -- ---- with one fact more
  module _ (es : Entries) (name : List ℕ) (v : Entry) (sorted : Sorted es) (absent : value_at bytes_cmp name es ≡ None) where
    more_found : (q : List ℕ) (k : Bool) → is_listed f es q ≡ k → (has (f v) q || k) ≡ true → (c : List ℕ) × (lists f (value_at bytes_cmp c (with_entry bytes_cmp name v es)) q ≡ true)
    more_found q true k h =
        let r = listed_found es sorted q k in
        (r.0, ap (λ o. lists f o q) (value-with name v es r.0) ∙ other r.0 (bytes_eq r.0 name) refl r.1)
      where
        other : (c : List ℕ) (s : Bool) → bytes_eq c name ≡ s → lists f (value_at bytes_cmp c es) q ≡ true → lists f (cond s (Some v) (value_at bytes_cmp c es)) q ≡ true
        other c true s h = absurd (not_none (value_at bytes_cmp c es) q (ap (λ n. value_at bytes_cmp n es) ((bytes_decides c name).0 s) ∙ absent) h)
        other c false s h = h
    more_found q false k h = (name, ap (λ o. lists f o q) (value-with name v es name ∙ ap (λ s. cond s (Some v) (value_at bytes_cmp name es)) (nat_list_eq_equiv.refl name)) ∙ sym (or-none (has (f v) q)) ∙ h)
      where
        or-none : (b : Bool) → (b || false) ≡ b
        or-none true = refl
        or-none false = refl

    more_there : (q c : List ℕ) (s : Bool) → lists f (cond s (Some v) (value_at bytes_cmp c es)) q ≡ true → (has (f v) q || is_listed f es q) ≡ true
    more_there q c true h = ap (λ x. x || is_listed f es q) h
    more_there q c false h = or_right (has (f v) q) (is_listed f es q) (listed_there es q c h)

    pub listed_with : (q : List ℕ) → is_listed f (with_entry bytes_cmp name v es) q ≡ (has (f v) q || is_listed f es q)
    listed_with q =
        same_finds (is_listed f (with_entry bytes_cmp name v es) q) (has (f v) q || is_listed f es q) _ _ (finds_listed (with_entry bytes_cmp name v es) (sorted-insert_entry bytes_cmp-IsTotalOrder name v es sorted) q)
        (record { found = more_found q (is_listed f es q) refl; there = λ c h. more_there q c (bytes_eq c name) (sym (ap (λ o. lists f o q) (value-with name v es c)) ∙ h) })
        (λ c. refl)

    or-false : (b : Bool) → (b || false) ≡ b
    or-false true = refl
    or-false false = refl

    pub pairs_with : (ps : List (Pair × Unit {0})) → ArePairs f es ps
        → (k : Pair) → (is_some (value_at pair_cmp k ps) || (is_name k.second name && has (f v) k.first)) ≡ lists f (option_and_then (λ c. value_at bytes_cmp c (with_entry bytes_cmp name v es)) k.second) k.first
    pairs_with ps pairs k =
        ap (λ b. b || (is_name k.second name && has (f v) k.first)) (pairs k) ∙ by k.second
      where
        by : (s : Option (List ℕ)) → (lists f (option_and_then (λ c. value_at bytes_cmp c es) s) k.first || (is_name s name && has (f v) k.first)) ≡ lists f (option_and_then (λ c. value_at bytes_cmp c (with_entry bytes_cmp name v es)) s) k.first
        by None = refl
        by (Some c) =
            elim (bytes_eq c name) as (λ b. bytes_eq c name ≡ b → (lists f (value_at bytes_cmp c es) k.first || (b && has (f v) k.first)) ≡ lists f (cond b (Some v) (value_at bytes_cmp c es)) k.first) [
              | true ↦ λ h. ap (λ r. lists f r k.first || has (f v) k.first) (ap (λ q. value_at bytes_cmp q es) ((bytes_decides c name).0 h) ∙ absent)
              | false ↦ λ h. or-false (lists f (value_at bytes_cmp c es) k.first)
            ] refl
            ∙ ap (λ r. lists f r k.first) (sym (value-with name v es c))

  -- ---- with one less
  module _ (es : Entries) (name : List ℕ) (v : Entry) (sorted : Sorted es) (there : value_at bytes_cmp name es ≡ Some v) where
    less_found : (q : List ℕ) (k : Bool) → is_listed f (without_key bytes_cmp name es) q ≡ k → (has (f v) q || k) ≡ true → (c : List ℕ) × (lists f (value_at bytes_cmp c es) q ≡ true)
    less_found q true k h =
        let r = listed_found (without_key bytes_cmp name es) (sorted-remove_entry bytes_cmp-IsTotalOrder (is_at (bytes_cmp name)) es sorted) q k in
        (r.0, other r.0 (bytes_eq r.0 name) (sym (ap (λ o. lists f o q) (value-without name es sorted r.0)) ∙ r.1))
      where
        other : (c : List ℕ) (s : Bool) → lists f (cond s None (value_at bytes_cmp c es)) q ≡ true → lists f (value_at bytes_cmp c es) q ≡ true
        other c true h = absurd (true≢false (sym h))
        other c false h = h
    less_found q false k h = (name, ap (λ o. lists f o q) there ∙ sym (or-none (has (f v) q)) ∙ h)
      where
        or-none : (b : Bool) → (b || false) ≡ b
        or-none true = refl
        or-none false = refl

    less_there : (q c : List ℕ) (s : Bool) → bytes_eq c name ≡ s → lists f (value_at bytes_cmp c es) q ≡ true → (has (f v) q || is_listed f (without_key bytes_cmp name es) q) ≡ true
    less_there q c true s h =
        ap (λ x. x || is_listed f (without_key bytes_cmp name es) q) (sym (ap (λ o. lists f o q) (ap (λ n. value_at bytes_cmp n es) ((bytes_decides c name).0 s) ∙ there)) ∙ h)
    less_there q c false s h =
        or_right (has (f v) q) (is_listed f (without_key bytes_cmp name es) q)
        (listed_there (without_key bytes_cmp name es) q c (ap (λ o. lists f o q) (value-without name es sorted c ∙ ap (λ b. cond b None (value_at bytes_cmp c es)) s) ∙ h))

    pub listed_less : (q : List ℕ) → is_listed f es q ≡ (has (f v) q || is_listed f (without_key bytes_cmp name es) q)
    listed_less q =
        same_finds (is_listed f es q) (has (f v) q || is_listed f (without_key bytes_cmp name es) q) _ _ (finds_listed es sorted q)
        (record { found = less_found q (is_listed f (without_key bytes_cmp name es) q) refl; there = λ c h. less_there q c (bytes_eq c name) refl h })
        (λ c. refl)

    not-and : (b : Bool) → (not b && b) ≡ false
    not-and true = refl
    not-and false = refl

    pub pairs_without : (ps : List (Pair × Unit {0})) → ArePairs f es ps
        → (k : Pair) → (not (is_name k.second name && has (f v) k.first) && is_some (value_at pair_cmp k ps)) ≡ lists f (option_and_then (λ c. value_at bytes_cmp c (without_key bytes_cmp name es)) k.second) k.first
    pairs_without ps pairs k =
        ap (λ b. not (is_name k.second name && has (f v) k.first) && b) (pairs k) ∙ by k.second
      where
        by : (s : Option (List ℕ)) → (not (is_name s name && has (f v) k.first) && lists f (option_and_then (λ c. value_at bytes_cmp c es) s) k.first) ≡ lists f (option_and_then (λ c. value_at bytes_cmp c (without_key bytes_cmp name es)) s) k.first
        by None = refl
        by (Some c) =
            elim (bytes_eq c name) as (λ b. bytes_eq c name ≡ b → (not (b && has (f v) k.first) && lists f (value_at bytes_cmp c es) k.first) ≡ lists f (cond b None (value_at bytes_cmp c es)) k.first) [
              | true ↦ λ h. ap (λ r. not (has (f v) k.first) && lists f r k.first) (ap (λ n. value_at bytes_cmp n es) ((bytes_decides c name).0 h) ∙ there) ∙ not-and (has (f v) k.first)
              | false ↦ λ h. refl
            ] refl
            ∙ ap (λ r. lists f r k.first) (sym (value-without name es sorted c))

    -- ---- with another in its place that has the same list
    module _ (w : Entry) (same : f v ≡ f w) where
      at_over : (q c : List ℕ) → lists f (value_at bytes_cmp c (with_entry bytes_cmp name w es)) q ≡ lists f (value_at bytes_cmp c es) q
      at_over q c =
          ap (λ o. lists f o q) (value-with name w es c)
          ∙ elim (bytes_eq c name) as (λ b. bytes_eq c name ≡ b → lists f (cond b (Some w) (value_at bytes_cmp c es)) q ≡ lists f (value_at bytes_cmp c es) q) [
            | true ↦ λ h. ap (λ l. has l q) (sym same) ∙ sym (ap (λ o. lists f o q) (ap (λ n. value_at bytes_cmp n es) ((bytes_decides c name).0 h) ∙ there))
            | false ↦ λ h. refl
          ] refl

      pub listed_over : (q : List ℕ) → is_listed f (with_entry bytes_cmp name w es) q ≡ is_listed f es q
      listed_over q =
          same_finds (is_listed f (with_entry bytes_cmp name w es) q) (is_listed f es q) _ _ (finds_listed (with_entry bytes_cmp name w es) (sorted-insert_entry bytes_cmp-IsTotalOrder name w es sorted) q) (finds_listed es sorted q) (at_over q)

      pub pairs_over : (ps : List (Pair × Unit {0})) → ArePairs f es ps → ArePairs f (with_entry bytes_cmp name w es) ps
      pairs_over ps pairs k = pairs k ∙ by k.second
        where
          by : (s : Option (List ℕ)) → lists f (option_and_then (λ c. value_at bytes_cmp c es) s) k.first ≡ lists f (option_and_then (λ c. value_at bytes_cmp c (with_entry bytes_cmp name w es)) s) k.first
          by None = refl
          by (Some c) = sym (at_over k.first c)
