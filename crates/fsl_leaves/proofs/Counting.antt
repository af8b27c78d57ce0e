-- Whether a name has a child in a branch: among the facts and among the pairs, with one fact more and with one less.
use Rattle.std.proofs.Common.{◌≡◌, ℕ, List, [], ◌∷◌, Bool, true, false, cond, not, ◌||◌, ◌&&◌, if◌then◌else◌, Option, Some, None, refl, sym, ap, ◌∙◌}
use mathlib.Core.Bool.{true≢false}
use Rattle.std.specs.Str.{bytes_eq}
use Rattle.std.specs.Ordering.{is_eq}
use Rattle.std.specs.List.Sorted.{IsStrictlySortedBy}
use Rattle.std.specs.Map.{keys_of}
use Rattle.std.specs.Cmp.Lexicographic.{texts_ties, bytes_decides, nat_list_eq_equiv}
use Rattle.fsl_order.specs.Names.{bytes_cmp, has}
use Rattle.fsl_order.proofs.Orders.{bytes_cmp-IsTotalOrder}
use Rattle.fsl_table.specs.Contents.{value_at, with_entry, without_key}
use Rattle.fsl_table.proofs.Entries.{none_above, sorted-insert_entry, sorted-remove_entry}
use Rattle.fsl_table.proofs.Finding.{value-with, value-without}
use Rattle.std.specs.BTreeMap.{is_at}
use Rattle.std.proofs.lemmas.Bool.{or_right}
use Rattle.fsl_order.proofs.Booleans.{and_true}
use Rattle.fsl_leaves.specs.declared.line.Line.{Line}
use Rattle.fsl_leaves.specs.Keys.{Kin, walked}
use Rattle.fsl_leaves.specs.Kept.{Lines, ArePairs, lists, is_in, continues_in, continued, ends, leaf, ends_walk, counted}
use Rattle.fsl_leaves.proofs.Kinship.{kin, finds_walked}
use Rattle.fsl_table.proofs.Finds.{Finds, same_finds}

abbrev Sorted : Lines → Type 0
Sorted es = IsStrictlySortedBy bytes_cmp (keys_of es)

not_none : (o : Option Line) (q b : List ℕ) → o ≡ None → continues_in o q b ≡ true → ⊥
not_none None q b h e = true≢false (sym e)
not_none (Some l) q b h e = cc

continued_found : (es : Lines) → Sorted es → (q b : List ℕ) → continued es q b ≡ true → (c : List ℕ) × (continues_in (value_at bytes_cmp c es) q b ≡ true)
unfolding IsStrictlySortedBy
continued_found [] sorted q b h = absurd (true≢false (sym h))
continued_found (e ∷ es) sorted q b h = by (λ k. continued_found es sorted.1 q b k) (has e.1.parents q && bytes_eq e.1.branch b) refl h
  where
    other : (c : List ℕ) (s : Bool) → bytes_eq c e.0 ≡ s → continues_in (value_at bytes_cmp c es) q b ≡ true → continues_in (cond s (Some e.1) (value_at bytes_cmp c es)) q b ≡ true
    other c true s h = absurd (not_none (value_at bytes_cmp c es) q b (ap (λ n. value_at bytes_cmp n es) ((bytes_decides c e.0).0 s) ∙ none_above bytes_cmp-IsTotalOrder e.0 es sorted.0) h)
    other c false s h = h

    by : (continued es q b ≡ true → (c : List ℕ) × (continues_in (value_at bytes_cmp c es) q b ≡ true)) → (k : Bool) → (has e.1.parents q && bytes_eq e.1.branch b) ≡ k → (k || continued es q b) ≡ true → (c : List ℕ) × (continues_in (value_at bytes_cmp c (e ∷ es)) q b ≡ true)
    by rest true k h = (e.0, ap (λ s. continues_in (cond s (Some e.1) (value_at bytes_cmp e.0 es)) q b) (sym (texts_ties e.0 e.0) ∙ nat_list_eq_equiv.refl e.0) ∙ k)
    by rest false k h =
        let f = rest h in
        (f.0, ap (λ s. continues_in (cond s (Some e.1) (value_at bytes_cmp f.0 es)) q b) (sym (texts_ties f.0 e.0)) ∙ other f.0 (bytes_eq f.0 e.0) refl f.1)

continued_there : (es : Lines) (q b c : List ℕ) → continues_in (value_at bytes_cmp c es) q b ≡ true → continued es q b ≡ true
continued_there [] q b c h = absurd (true≢false (sym h))
continued_there (e ∷ es) q b c h = by (λ k. continued_there es q b c k) (is_eq (bytes_cmp c e.0)) h
  where
    by : (continues_in (value_at bytes_cmp c es) q b ≡ true → continued es q b ≡ true) → (s : Bool) → continues_in (cond s (Some e.1) (value_at bytes_cmp c es)) q b ≡ true → ((has e.1.parents q && bytes_eq e.1.branch b) || continued es q b) ≡ true
    by rest true h = ap (λ x. x || continued es q b) h
    by rest false h = or_right (has e.1.parents q && bytes_eq e.1.branch b) (continued es q b) (rest h)

pub finds_continued : (es : Lines) → Sorted es → (q b : List ℕ) → Finds (continued es q b) (λ c. continues_in (value_at bytes_cmp c es) q b)
finds_continued es sorted q b = record { found = continued_found es sorted q b; there = continued_there es q b }

-- among the keys it is the same
pub walked_is : (es : Lines) (cs : List (Kin × Unit {0})) → Sorted es → ArePairs es cs → (q b : List ℕ) → walked cs q b ≡ continued es q b
walked_is es cs sorted pairs q b =
    same_finds (walked cs q b) (continued es q b) _ _ (finds_walked cs q b) (finds_continued es sorted q b) (λ c. pairs (kin q b c))

-- ---- with one fact more
module _ (es : Lines) (name : List ℕ) (l : Line) (sorted : Sorted es) (absent : value_at bytes_cmp name es ≡ None) where
  abbrev with : Lines
  with = with_entry bytes_cmp name l es

  sorted_with : Sorted with
  sorted_with = sorted-insert_entry bytes_cmp-IsTotalOrder name l es sorted

  at_with : (c : List ℕ) → value_at bytes_cmp c with ≡ cond (bytes_eq c name) (Some l) (value_at bytes_cmp c es)
  at_with c = value-with name l es c

  more_found : (q b : List ℕ) (k : Bool) → continued es q b ≡ k → (k || continues_in (Some l) q b) ≡ true → (c : List ℕ) × (continues_in (value_at bytes_cmp c with) q b ≡ true)
  more_found q b true k h =
      let f = continued_found es sorted q b k in
      (f.0, ap (λ o. continues_in o q b) (at_with f.0) ∙ other f.0 (bytes_eq f.0 name) refl f.1)
    where
      other : (c : List ℕ) (s : Bool) → bytes_eq c name ≡ s → continues_in (value_at bytes_cmp c es) q b ≡ true → continues_in (cond s (Some l) (value_at bytes_cmp c es)) q b ≡ true
      other c true s h = absurd (not_none (value_at bytes_cmp c es) q b (ap (λ n. value_at bytes_cmp n es) ((bytes_decides c name).0 s) ∙ absent) h)
      other c false s h = h
  more_found q b false k h = (name, ap (λ o. continues_in o q b) (at_with name ∙ ap (λ s. cond s (Some l) (value_at bytes_cmp name es)) (nat_list_eq_equiv.refl name)) ∙ h)

  more_there : (q b c : List ℕ) (s : Bool) → continues_in (cond s (Some l) (value_at bytes_cmp c es)) q b ≡ true → (continued es q b || continues_in (Some l) q b) ≡ true
  more_there q b c true h = or_right (continued es q b) (continues_in (Some l) q b) h
  more_there q b c false h = ap (λ x. x || continues_in (Some l) q b) (continued_there es q b c h)

  pub continued_with : (q b : List ℕ) → continued with q b ≡ (continued es q b || continues_in (Some l) q b)
  continued_with q b =
      same_finds (continued with q b) (continued es q b || continues_in (Some l) q b) _ _ (finds_continued with sorted_with q b)
      (record { found = more_found q b (continued es q b) refl; there = λ c h. more_there q b c (bytes_eq c name) (sym (ap (λ o. continues_in o q b) (at_with c)) ∙ h) })
      (λ c. refl)

  apart : (k h x y : Bool) → x ≡ y → not (k || (h && x)) ≡ (not k && not (h && y))
  apart true h x y e = refl
  apart false h x y e = ap (λ z. not (h && z)) e

  pub leaf_with : (q : List ℕ) → leaf with q ≡ (if bytes_eq q name then not (continued es name l.branch || has l.parents name) else (leaf es q && not (has l.parents q && is_in (value_at bytes_cmp q es) l.branch)))
  leaf_with q =
      ap (ends with q) (at_with q)
      ∙ elim (bytes_eq q name) as (λ s. bytes_eq q name ≡ s → ends with q (cond s (Some l) (value_at bytes_cmp q es)) ≡ (if s then not (continued es name l.branch || has l.parents name) else (leaf es q && not (has l.parents q && is_in (value_at bytes_cmp q es) l.branch)))) [
        | true ↦ λ s.
            ap not (continued_with q l.branch ∙ ap (λ x. continued es q l.branch || (has l.parents q && x)) (nat_list_eq_equiv.refl l.branch) ∙ ap (λ x. continued es q l.branch || x) (and_true (has l.parents q)))
            ∙ ap (λ n. not (continued es n l.branch || has l.parents n)) ((bytes_decides q name).0 s)
        | false ↦ λ s. by (value_at bytes_cmp q es)
      ] refl
    where
      by : (o : Option Line) → ends with q o ≡ (ends es q o && not (has l.parents q && is_in o l.branch))
      by None = refl
      by (Some m) = ap not (continued_with q m.branch) ∙ apart (continued es q m.branch) (has l.parents q) (bytes_eq l.branch m.branch) (bytes_eq m.branch l.branch) (nat_list_eq_equiv.symm l.branch m.branch)

-- ---- with one less
module _ (es : Lines) (name : List ℕ) (sorted : Sorted es) where
  abbrev less : Lines
  less = without_key bytes_cmp name es

  sorted_less : Sorted less
  sorted_less = sorted-remove_entry bytes_cmp-IsTotalOrder (is_at (bytes_cmp name)) es sorted

  at_less : (c : List ℕ) → value_at bytes_cmp c less ≡ cond (bytes_eq c name) None (value_at bytes_cmp c es)
  at_less c = value-without name es sorted c

  -- who isn't its parent has no child less
  continued_less : (q b : List ℕ) → lists (value_at bytes_cmp name es) q ≡ false → continued es q b ≡ continued less q b
  continued_less q b h =
      same_finds (continued es q b) (continued less q b) _ _ (finds_continued es sorted q b) (finds_continued less sorted_less q b)
      (λ c. by c (bytes_eq c name) refl ∙ sym (ap (λ o. continues_in o q b) (at_less c)))
    where
      by : (c : List ℕ) (s : Bool) → bytes_eq c name ≡ s → continues_in (value_at bytes_cmp c es) q b ≡ continues_in (cond s None (value_at bytes_cmp c es)) q b
      by c true s = ap (λ x. x && is_in (value_at bytes_cmp c es) b) (ap (λ n. lists (value_at bytes_cmp n es) q) ((bytes_decides c name).0 s) ∙ h)
      by c false s = refl

  pub leaf_less : (cs : List (Kin × Unit {0})) → ArePairs less cs → (q : List ℕ)
      → (if bytes_eq q name then false else (if lists (value_at bytes_cmp name es) q then counted es cs q else leaf es q)) ≡ leaf less q
  leaf_less cs pairs q =
      elim (bytes_eq q name) as (λ s. (if s then false else (if lists (value_at bytes_cmp name es) q then counted es cs q else leaf es q)) ≡ ends less q (cond s None (value_at bytes_cmp q es))) [
        | true ↦ refl
        | false ↦
            elim (lists (value_at bytes_cmp name es) q) as (λ t. lists (value_at bytes_cmp name es) q ≡ t → (if t then counted es cs q else leaf es q) ≡ ends less q (value_at bytes_cmp q es)) [
              | true ↦ λ t. count (value_at bytes_cmp q es)
              | false ↦ λ t. stay t (value_at bytes_cmp q es)
            ] refl
      ]
      ∙ sym (ap (ends less q) (at_less q))
    where
      count : (o : Option Line) → ends_walk cs q o ≡ ends less q o
      count None = refl
      count (Some m) = ap not (walked_is less cs sorted_less pairs q m.branch)

      stay : lists (value_at bytes_cmp name es) q ≡ false → (o : Option Line) → ends es q o ≡ ends less q o
      stay t None = refl
      stay t (Some m) = ap not (continued_less q m.branch t)
