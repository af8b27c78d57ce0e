-- A fact more whose assertions are all on itself leaves the rows of other names.
use mathlib.Core.Bool.{true≢false}
use Rattle.std.specs.Prelude.{◌≡◌, ℕ, ◌+◌, zero, suc, List, [], ◌∷◌, true, false, cond, Option, Some, None, IfSome, IsTrue, option_and_then, map}
use Rattle.std.proofs.Common.{refl, sym, ap, ◌∙◌, subst, arith}
use Rattle.std.specs.Str.{bytes_eq}
use Rattle.std.specs.List.{AllByRecursion}
use Rattle.std.specs.List.Sorted.{IsStrictlySortedBy}
use Rattle.std.specs.Map.{keys_of}
use Rattle.std.specs.Option.{option_map_or}
use Rattle.std.specs.Cmp.Lexicographic.{bytes_decides, nat_list_eq_equiv}
use Rattle.fsl_order.specs.Names.{bytes_cmp, has}
use Rattle.fsl_order.specs.Rows.{by_name, named, greater}
use Rattle.fsl_order.proofs.RowLemmas.{named-All, is_some-named}
use Rattle.fsl_table.specs.Contents.{with_entry}
use Rattle.fsl_table.proofs.Finding.{none_from}
use Rattle.fsl_tags.specs.declared.Fact.{Fact}
use Rattle.fsl_tags.specs.declared.Assertion.{Assertion}
use Rattle.fsl_tags.specs.declared.node.Node.{Node}
use Rattle.fsl_tags.specs.Tags.{newer_cmp, direct, parent, checkins, effective, tags_row, only, IsTagFact, AreTagFacts}
use Rattle.fsl_tags.specs.Passing.{passes}
use Rattle.fsl_tags.specs.Climbed.{lim}
use Rattle.fsl_tags.specs.Kept.{newest_on}
use Rattle.fsl_tags.specs.Held.{facts_of}
use Rattle.fsl_tags.specs.Laid.{parent_in}
use Rattle.fsl_tags.specs.Laws.{OthersStay}
use Rattle.fsl_tags.proofs.Canonical.{entry_of}
use Rattle.fsl_tags.proofs.DirectWith.{direct-with, sourced}
use Rattle.fsl_tags.proofs.Effective.{parent-is}
use Rattle.fsl_tags.proofs.Filling.{value_none}
use Rattle.fsl_tags.proofs.Fit.{fit_with}
use Rattle.fsl_tags.proofs.FitByName.{fit_by_name}
use Rattle.fsl_tags.proofs.Limits.{effective-more}
use Rattle.fsl_tags.proofs.Linked.{parent-with}
use Rattle.fsl_tags.proofs.RowsOf.{same_row, tags_row-rises, tags_row-finds}
use Rattle.fsl_tags.proofs.WithFact.{facts_with}

-- ---- a climb that never comes by the name

module _ (par then : List ℕ → Option (List ℕ)) (own now : List ℕ → Option Assertion) (r : List ℕ)
    (same_par : (x : List ℕ) → bytes_eq x r ≡ false → then x ≡ par x) (same_own : (x : List ℕ) → bytes_eq x r ≡ false → now x ≡ own x) (clear : (x : List ℕ) → par x ≡ Some r → ⊥) where
  lim-clear : (k : ℕ) (x : List ℕ) → bytes_eq x r ≡ false → lim then now k x ≡ lim par own k x
  lim-clear zero x apart = same_own x apart
  lim-clear (suc k) x apart =
      (λ i. greater newer_cmp (same_own x apart i) (only passes (option_and_then (lim then now k) (same_par x apart i))))
      ∙ elim (par x) as (λ o. par x ≡ o → greater newer_cmp (own x) (only passes (option_and_then (lim then now k) o)) ≡ greater newer_cmp (own x) (only passes (option_and_then (lim par own k) o))) [
        | None ↦ λ _. refl
        | Some p ↦ λ e. ap (λ o. greater newer_cmp (own x) (only passes o)) (lim-clear k p (other p (λ same. clear x (e ∙ ap (λ (q : List ℕ). Some q) same))))
      ] refl
    where
      other : (p : List ℕ) → (p ≡ r → ⊥) → bytes_eq p r ≡ false
      other p differ = elim (bytes_eq p r) as (λ b. bytes_eq p r ≡ b → b ≡ false) [
        | true ↦ λ h. absurd (differ ((bytes_decides p r).0 h))
        | false ↦ λ _. refl
      ] refl

-- ---- assertions on the fact alone

none_on : (x name tag : List ℕ) (as_ : List Assertion) → bytes_eq x name ≡ false → AllByRecursion (λ a. a.target ≡ name) as_ → newest_on x tag as_ ≡ None
none_on x name tag [] apart all = refl
none_on x name tag (a ∷ as_) apart all =
    let off : bytes_eq a.target x ≡ false = ap (λ n. bytes_eq n x) all.0 ∙ nat_list_eq_equiv.symm name x ∙ apart in
    rw off (none_on x name tag as_ apart all.1)

greater-nothing : (o : Option Assertion) → greater newer_cmp o None ≡ o
greater-nothing None = refl
greater-nothing (Some a) = refl

module _ (es : List (List ℕ × Node)) (fact : Fact) (ordered : IsStrictlySortedBy bytes_cmp (keys_of es)) (fit : AreTagFacts (facts_of es)) (absent : has (map (λ f. f.name) (facts_of es)) fact.name ≡ false)
    (one : IsTagFact (fact ∷ facts_of es) fact) (own : AllByRecursion (λ a. a.target ≡ fact.name) fact.tags) where
  abbrev node : Node
  node = record { checkin = fact.checkin; parent = fact.parent; tags = fact.tags }

  abbrev after : List (List ℕ × Node)
  after = with_entry bytes_cmp fact.name node es

  is : facts_of after ≡ by_name (λ f. f.name) (fact ∷ facts_of es)
  is = facts_with fact.name node es ordered

  not_named : named (λ f. f.name) (facts_of es) fact.name ≡ None
  not_named = none_from (named (λ f. f.name) (facts_of es) fact.name) (is_some-named (λ f. f.name) (facts_of es) fact.name ∙ absent)

  same_parent : (x : List ℕ) → bytes_eq x fact.name ≡ false → parent (facts_of after) x ≡ parent (facts_of es) x
  same_parent x apart = parent-is after x ∙ parent-with fact.name node es x ∙ ap (λ b. cond b fact.parent (parent_in es x)) apart ∙ sym (parent-is es x)

  same_direct : (tag x : List ℕ) → bytes_eq x fact.name ≡ false → direct (facts_of after) x tag ≡ direct (facts_of es) x tag
  same_direct tag x apart =
      direct-with fact.name node x tag one.sources es (sourced (facts_of es) (facts_of es) fit.fit) (value_none es fact.name not_named)
      ∙ ap (greater newer_cmp (direct (facts_of es) x tag)) (none_on x fact.name tag fact.tags apart own) ∙ greater-nothing (direct (facts_of es) x tag)

  clear : (c : List ℕ) → parent (facts_of es) c ≡ Some fact.name → ⊥
  clear c h =
      elim (named (λ f. f.name) (facts_of es) c) as (λ o. named (λ f. f.name) (facts_of es) c ≡ o → option_and_then (λ f. f.parent) o ≡ Some fact.name → ⊥) [
        | None ↦ λ _ q. cc
        | Some f ↦ λ found q.
            let fits = named-All (λ f. f.name) (IsTagFact (facts_of es)) (facts_of es) fit.fit c f found in
            let child = subst (λ p. IfSome p (λ up. IsTrue f.checkin × IsTrue (option_map_or (λ f. f.checkin) (named (λ f. f.name) (facts_of es) up) false))) q fits.child in
            true≢false (sym (subst (λ o. IsTrue (option_map_or (λ f. f.checkin) o false)) not_named child.1))
      ] refl h

  same_effective : (x tag : List ℕ) → bytes_eq x fact.name ≡ false → effective (facts_of after) x tag ≡ effective (facts_of es) x tag
  same_effective x tag apart =
      let fs = facts_of es in
      let gs = facts_of after in
      let all : AreTagFacts gs = subst AreTagFacts (sym is) (fit_by_name (fact ∷ fs) (fit_with fact fs fit absent one)) in
      let turned : checkins gs + checkins fs ≡ checkins fs + checkins gs = omega arith in
      sym (effective-more gs tag all (checkins fs) x)
      ∙ lim-clear (parent fs) (parent gs) (λ y. direct fs y tag) (λ y. direct gs y tag) fact.name same_parent (same_direct tag) clear (checkins gs + checkins fs) x apart
      ∙ ap (λ k. lim (parent fs) (λ y. direct fs y tag) k x) turned
      ∙ effective-more fs tag fit (checkins gs) x

  same_others : (x : List ℕ) → bytes_eq x fact.name ≡ false → tags_row (by_name (λ f. f.name) (fact ∷ facts_of es)) x ≡ tags_row (facts_of es) x
  same_others x apart =
      ap (λ fs. tags_row fs x) (sym is)
      ∙ same_row (tags_row (facts_of after) x) (tags_row (facts_of es) x) (tags_row-rises (facts_of after) x) (tags_row-rises (facts_of es) x)
      (λ t. tags_row-finds (facts_of after) x t ∙ same_effective x t apart ∙ sym (tags_row-finds (facts_of es) x t))

back : (fs : List Fact) → facts_of (map entry_of fs) ≡ fs
back [] = refl
back (f ∷ fs) = ap (λ l. f ∷ l) (back fs)

keys-back : (fs : List Fact) → keys_of (map entry_of fs) ≡ map (λ f. f.name) fs
keys-back [] = refl
keys-back (f ∷ fs) = ap (λ l. f.name ∷ l) (keys-back fs)

pub others : OthersStay
others facts fact rise fit absent one own x apart =
    let es = map entry_of facts in
    subst (λ fs. tags_row (by_name (λ f. f.name) (fact ∷ fs)) x ≡ tags_row fs x) (back facts)
    (same_others es fact (subst (IsStrictlySortedBy bytes_cmp) (sym (keys-back facts)) rise) (subst AreTagFacts (sym (back facts)) fit) (subst (λ fs. has (map (λ f. f.name) fs) fact.name ≡ false) (sym (back facts)) absent)
    (subst (λ fs. IsTagFact (fact ∷ fs) fact) (sym (back facts)) one) own x apart)
