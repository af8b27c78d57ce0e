-- The newest assertions with one fact more, in whatever place it stands by its name.
use mathlib.Core.Bool.{true≢false}
use Rattle.std.specs.Prelude.{◌≡◌, ℕ, zero, suc, List, [], ◌∷◌, Bool, true, false, ◌&&◌, ◌||◌, cond, if◌then◌else◌, Option, Some, None, All, filter, ◌⊎◌}
use Rattle.std.proofs.Common.{refl, sym, ap, ◌∙◌, subst, arith, inl, inr, ⊎_elim}
use Rattle.std.specs.Str.{bytes_eq}
use Rattle.std.specs.List.{AllByRecursion}
use Rattle.std.specs.Map.{keys_of}
use Rattle.std.specs.BTreeMap.{insert_entry}
use Rattle.std.specs.Ordering.{is_lt, is_eq, nat_cmp, ordering_then, ordering_reverse, match_ordering}
use Rattle.std.specs.declared.cmp.Ordering.{Ordering}
use Rattle.std.specs.declared.cmp.Ordering.TheVariants.{Less, Equal, Greater}
use Rattle.std.specs.Cmp.Lexicographic.{texts_ties, bytes_decides, nat_list_eq_equiv}
use Rattle.fsl_order.specs.Names.{bytes_cmp, has}
use Rattle.fsl_order.specs.Rows.{greater, greatest, named}
use Rattle.fsl_order.proofs.Orders.{bytes_cmp-IsTotalOrder}
use Rattle.fsl_table.proofs.Entries.{none_above}
use Rattle.std.specs.List.Sorted.{IsStrictlySortedBy}
use Rattle.fsl_table.specs.Contents.{value_at, with_entry}
use Rattle.fsl_tags.specs.declared.Fact.{Fact}
use Rattle.fsl_tags.specs.declared.Assertion.{Assertion}
use Rattle.fsl_tags.specs.declared.node.Node.{Node}
use Rattle.fsl_tags.specs.Tags.{newer_cmp, direct, IsTagFact}
use Rattle.fsl_tags.specs.Kept.{newest_on}
use Rattle.fsl_tags.specs.Held.{fact_of, facts_of}
use Rattle.fsl_tags.proofs.Newest.{greater-none, greater-assoc}
use Rattle.fsl_tags.proofs.EffectiveLaw.{newer_cmp-IsTotalOrder}
use Rattle.fsl_tags.proofs.Scans.{direct-next}

inside : (x y : Assertion) → let o : Option Assertion = Some x in o ≡ Some y → x ≡ y
inside x y e = cc

-- the greater is one of the two
greater-either : (p q : Option Assertion) (b : Assertion) → greater newer_cmp p q ≡ Some b → (p ≡ Some b) ⊎ (q ≡ Some b)
greater-either None q b e = inr e
greater-either (Some x) None b e = inl e
greater-either (Some x) (Some y) b e =
    elim (is_lt (newer_cmp x y)) as (λ t. Some (if t then y else x) ≡ Some b → (Some x ≡ Some b) ⊎ (Some y ≡ Some b)) [ true ↦ λ r. inr r | false ↦ λ r. inl r ] e

tied_source : (d s p : Ordering) → ordering_then d (ordering_then s p) ≡ Equal → s ≡ Equal
tied_source Less s p e = cc
tied_source Greater s p e = cc
tied_source Equal Less p e = cc
tied_source Equal Greater p e = cc
tied_source Equal Equal p e = refl

-- two that aren't of one source, either way about
commutes : (p q : Option Assertion) → ((a b : Assertion) → p ≡ Some a → q ≡ Some b → bytes_eq a.source b.source ≡ false) → greater newer_cmp p q ≡ greater newer_cmp q p
commutes None q apart = sym (greater-none newer_cmp newer_cmp-IsTotalOrder q)
commutes (Some a) None apart = refl
commutes (Some a) (Some b) apart =
    elim (newer_cmp a b) as (λ o. newer_cmp a b ≡ o → Some (if is_lt o then b else a) ≡ Some (if is_lt (newer_cmp b a) then a else b)) [
      | Less ↦ λ e. λ i. Some (if sym (ap is_lt (back e)) i then a else b)
      | Equal ↦ λ e. absurd (true≢false (sym (texts_ties a.source b.source ∙ ap is_eq (tied_source (nat_cmp a.date b.date) (bytes_cmp a.source b.source) (nat_cmp a.place b.place) e)) ∙ apart a b refl refl))
      | Greater ↦ λ e. λ i. Some (if sym (ap is_lt (back e)) i then a else b)
    ] refl
  where
    back : {o : Ordering} → newer_cmp a b ≡ o → newer_cmp b a ≡ ordering_reverse o
    back e = newer_cmp-IsTotalOrder.antisymm b a ∙ ap ordering_reverse e

-- ---- sources

each : (P : Assertion → Type 0) (as_ : List Assertion) → All P as_ → AllByRecursion P as_
each P [] all = tt
each P (a ∷ as_) all = (all zero a (omega arith), each P as_ (λ k d h. all (suc k) d (omega (arith, h))))

newest-holds : (P : Assertion → Type 0) (name tag : List ℕ) (as_ : List Assertion) → AllByRecursion P as_ → (b : Assertion) → newest_on name tag as_ ≡ Some b → P b
newest-holds P name tag [] all b e = cc
newest-holds P name tag (a ∷ rest) all b e =
    elim (bytes_eq a.target name && bytes_eq a.tag tag) as (λ t. greatest newer_cmp (cond t (a ∷ filter (λ a. bytes_eq a.target name && bytes_eq a.tag tag) rest) (filter (λ a. bytes_eq a.target name && bytes_eq a.tag tag) rest)) ≡ Some b → P b) [
      | false ↦ λ r. newest-holds P name tag rest all.1 b r
      | true ↦ λ r. ⊎_elim {C = P b} (λ (h : Some a ≡ Some b). subst P (inside a b h) all.0) (λ (h : newest_on name tag rest ≡ Some b). newest-holds P name tag rest all.1 b h) (greater-either (Some a) (newest_on name tag rest) b r)
    ] e

direct-cons : (name tag : List ℕ) (f : Fact) (rest : List Fact) → direct (f ∷ rest) name tag ≡ greater newer_cmp (newest_on name tag f.tags) (direct rest name tag)
direct-cons name tag f rest = direct-next name tag None f rest

abbrev Sourced : List Fact → Type 0
Sourced facts = AllByRecursion (λ f. All (λ a. a.source ≡ f.name) f.tags) facts

direct-source : (name tag : List ℕ) (es : List (List ℕ × Node)) → Sourced (facts_of es) → (b : Assertion) → direct (facts_of es) name tag ≡ Some b → has (keys_of es) b.source ≡ true
direct-source name tag [] all b e = cc
direct-source name tag (e ∷ es) all b h =
    ⊎_elim {C = has (keys_of (e ∷ es)) b.source ≡ true}
    (λ (q : newest_on name tag e.1.tags ≡ Some b).
    let s : b.source ≡ e.0 = newest-holds (λ a. a.source ≡ e.0) name tag e.1.tags (each (λ a. a.source ≡ e.0) e.1.tags all.0) b q in
    ap (λ t. t || has (keys_of es) b.source) ((bytes_decides b.source e.0).1 s))
    (λ (q : direct (facts_of es) name tag ≡ Some b). ap (λ t. bytes_eq b.source e.0 || t) (direct-source name tag es all.1 b q) ∙ or-true (bytes_eq b.source e.0))
    (greater-either (newest_on name tag e.1.tags) (direct (facts_of es) name tag) b (sym (direct-cons name tag (fact_of e) (facts_of es)) ∙ h))
  where
    or-true : (b : Bool) → (b || true) ≡ true
    or-true true = refl
    or-true false = refl

absent-keys : (k : List ℕ) (es : List (List ℕ × Node)) → value_at bytes_cmp k es ≡ None → has (keys_of es) k ≡ false
absent-keys k [] h = refl
absent-keys k (e ∷ es) h =
    ap (λ b. b || has (keys_of es) k) (texts_ties k e.0)
    ∙ elim (is_eq (bytes_cmp k e.0)) as (λ b. cond b (Some e.1) (value_at bytes_cmp k es) ≡ None → (b || has (keys_of es) k) ≡ false) [ true ↦ λ r. cc | false ↦ λ r. absent-keys k es r ] h

module _ (k : List ℕ) (node : Node) (name tag : List ℕ) (sources : All (λ a. a.source ≡ k) node.tags) where
  abbrev mine : Option Assertion
  mine = newest_on name tag node.tags

  turned : (es : List (List ℕ × Node)) → Sourced (facts_of es) → has (keys_of es) k ≡ false → greater newer_cmp mine (direct (facts_of es) name tag) ≡ greater newer_cmp (direct (facts_of es) name tag) mine
  turned es all none = commutes mine (direct (facts_of es) name tag) (λ a b p q.
      let s : a.source ≡ k = newest-holds (λ a. a.source ≡ k) name tag node.tags (each (λ a. a.source ≡ k) node.tags sources) a p in
      elim (bytes_eq a.source b.source) as (λ t. bytes_eq a.source b.source ≡ t → t ≡ false) [
        | true ↦ λ h. absurd (true≢false (sym (direct-source name tag es all b q) ∙ ap (has (keys_of es)) (sym ((bytes_decides a.source b.source).0 h) ∙ s) ∙ none))
        | false ↦ λ _. refl
      ] refl)

  pub direct-with : (es : List (List ℕ × Node)) → Sourced (facts_of es) → value_at bytes_cmp k es ≡ None → direct (facts_of (with_entry bytes_cmp k node es)) name tag ≡ greater newer_cmp (direct (facts_of es) name tag) mine
  direct-with [] all none = direct-cons name tag (fact_of (k, node)) [] ∙ greater-none newer_cmp newer_cmp-IsTotalOrder mine
  direct-with (e ∷ es) all none =
      elim (bytes_cmp k e.0) as (λ o. bytes_cmp k e.0 ≡ o → direct (facts_of (match_ordering o ((k, node) ∷ e ∷ es) ((e.0, node) ∷ es) (e ∷ insert_entry bytes_cmp es k node))) name tag ≡ greater newer_cmp (direct (facts_of (e ∷ es)) name tag) mine) [
        | Less ↦ λ _. direct-cons name tag (fact_of (k, node)) (facts_of (e ∷ es)) ∙ turned (e ∷ es) all (absent-keys k (e ∷ es) none)
        | Equal ↦ λ h. absurd (gone (is_eq (bytes_cmp k e.0)) (ap is_eq h) none)
        | Greater ↦ λ h.
            direct-cons name tag (fact_of e) (facts_of (insert_entry bytes_cmp es k node))
            ∙ ap (greater newer_cmp (newest_on name tag e.1.tags)) (direct-with es all.1 (sym (ap (λ o. cond (is_eq o) (Some e.1) (value_at bytes_cmp k es)) h) ∙ none))
            ∙ greater-assoc newer_cmp newer_cmp-IsTotalOrder (newest_on name tag e.1.tags) (direct (facts_of es) name tag) mine
            ∙ ap (λ o. greater newer_cmp o mine) (sym (direct-cons name tag (fact_of e) (facts_of es)))
      ] refl
    where
      gone : (b : Bool) → b ≡ true → cond b (Some e.1) (value_at bytes_cmp k es) ≡ None → ⊥
      gone true h r = cc
      gone false h r = true≢false (sym h)

pub sourced : (some facts : List Fact) → AllByRecursion (IsTagFact some) facts → Sourced facts
sourced some [] all = tt
sourced some (f ∷ facts) all = (all.0.sources, sourced some facts all.1)

-- ---- a fact that keeps its assertions

pub tags_there : (k : List ℕ) (f : Fact) (es : List (List ℕ × Node)) → named (λ f. f.name) (facts_of es) k ≡ Some f → (n : Node) × (value_at bytes_cmp k es ≡ Some n) × (n.tags ≡ f.tags)
tags_there k f [] h = cc
tags_there k f (e ∷ es) h =
    elim (bytes_eq e.0 k) as (λ b. bytes_eq e.0 k ≡ b → cond b (Some (fact_of e)) (named (λ f. f.name) (facts_of es) k) ≡ Some f → (n : Node) × (value_at bytes_cmp k (e ∷ es) ≡ Some n) × (n.tags ≡ f.tags)) [
      | true ↦ λ t r. (e.1, ap (λ b. cond b (Some e.1) (value_at bytes_cmp k es)) (sym (texts_ties k e.0) ∙ nat_list_eq_equiv.symm k e.0 ∙ t), ap (λ f. f.tags) (within_some (fact_of e) f r))
      | false ↦ λ t r. let i = tags_there k f es r in (i.0, ap (λ b. cond b (Some e.1) (value_at bytes_cmp k es)) (sym (texts_ties k e.0) ∙ nat_list_eq_equiv.symm k e.0 ∙ t) ∙ i.1, i.2)
    ] refl h
  where
    within_some : (x y : Fact) → let o : Option Fact = Some x in o ≡ Some y → x ≡ y
    within_some x y e = cc

module _ (k : List ℕ) (node : Node) (name tag : List ℕ) where
  sooner : (e : List ℕ) → bytes_cmp k e ≡ Less → (keys : List (List ℕ)) → AllByRecursion (λ y. bytes_cmp e y ≡ Less) keys → AllByRecursion (λ y. bytes_cmp k y ≡ Less) keys
  sooner e h [] all = tt
  sooner e h (y ∷ keys) all = (bytes_cmp-IsTotalOrder.trans k e y h all.0, sooner e h keys all.1)

  pub direct-kept : (es : List (List ℕ × Node)) → IsStrictlySortedBy bytes_cmp (keys_of es) → (n : Node) → value_at bytes_cmp k es ≡ Some n → n.tags ≡ node.tags
      → direct (facts_of (with_entry bytes_cmp k node es)) name tag ≡ direct (facts_of es) name tag
  unfolding IsStrictlySortedBy
  direct-kept [] up n h same = cc
  direct-kept (e ∷ es) up n h same =
      elim (bytes_cmp k e.0) as (λ o. bytes_cmp k e.0 ≡ o → direct (facts_of (match_ordering o ((k, node) ∷ e ∷ es) ((e.0, node) ∷ es) (e ∷ insert_entry bytes_cmp es k node))) name tag ≡ direct (facts_of (e ∷ es)) name tag) [
        | Less ↦ λ o.
            let later : value_at bytes_cmp k es ≡ Some n = sym (ap (λ r. cond (is_eq r) (Some e.1) (value_at bytes_cmp k es)) o) ∙ h in
            absurd (none_some n (sym (none_above bytes_cmp-IsTotalOrder k es (sooner e.0 o (keys_of es) up.0)) ∙ later))
        | Equal ↦ λ o.
            let is : e.1 ≡ n = some_is e.1 n (sym (ap (λ r. cond (is_eq r) (Some e.1) (value_at bytes_cmp k es)) o) ∙ h) in
            direct-cons name tag (fact_of (e.0, node)) (facts_of es) ∙ ap (λ as_. greater newer_cmp (newest_on name tag as_) (direct (facts_of es) name tag)) (sym (ap (λ n. n.tags) is ∙ same)) ∙ sym (direct-cons name tag (fact_of e) (facts_of es))
        | Greater ↦ λ o.
            direct-cons name tag (fact_of e) (facts_of (insert_entry bytes_cmp es k node))
            ∙ ap (greater newer_cmp (newest_on name tag e.1.tags)) (direct-kept es up.1 n (sym (ap (λ r. cond (is_eq r) (Some e.1) (value_at bytes_cmp k es)) o) ∙ h) same)
            ∙ sym (direct-cons name tag (fact_of e) (facts_of es))
      ] refl
    where
      some_is : (x y : Node) → let o : Option Node = Some x in o ≡ Some y → x ≡ y
      some_is x y e = cc

      none_some : (x : Node) → let o : Option Node = None in o ≡ Some x → ⊥
      none_some x e = cc
