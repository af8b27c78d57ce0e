-- What the tables are once a fact was taken in: its assertions first, and then itself.
use Rattle.std.specs.Prelude.{◌≡◌, ℕ, List, [], ◌∷◌, Option, None, All, option_and_then}
use Rattle.std.proofs.Common.{refl, sym, ap, ◌∙◌, subst}
use Rattle.std.specs.List.{AllByRecursion}
use Rattle.std.specs.List.Sorted.{IsStrictlySortedBy}
use Rattle.std.specs.Map.{keys_of}
use Rattle.fsl_order.specs.Names.{bytes_cmp}
use Rattle.fsl_order.specs.Rows.{named, greater, by_name, ListsChanged}
use Rattle.fsl_order.proofs.Orders.{bytes_cmp-IsTotalOrder}
use Rattle.fsl_table.specs.Contents.{with_entry}
use Rattle.fsl_table.specs.declared.key.Pair.{Pair}
use Rattle.fsl_table.specs.Pairs.{seconds}
use Rattle.fsl_table.proofs.Entries.{sorted-insert_entry}
use Rattle.fsl_tags.specs.declared.Fact.{Fact}
use Rattle.fsl_tags.specs.declared.Assertion.{Assertion}
use Rattle.fsl_tags.specs.declared.node.Node.{Node}
use Rattle.fsl_tags.specs.Tags.{newer_cmp, direct, tags_row, AreTagFacts}
use Rattle.fsl_tags.specs.Kept.{newest_on}
use Rattle.fsl_tags.specs.Laid.{row_in, parent_in, AreNoted, AreRight}
use Rattle.fsl_tags.specs.Held.{Rows, IsKept, facts_of, fact_of}
use Rattle.fsl_tags.proofs.Effective.{kept-row}
use Rattle.fsl_tags.proofs.FitByName.{fit_by_name}
use Rattle.fsl_tags.proofs.DirectWith.{direct-with, sourced}
use Rattle.fsl_tags.proofs.WithFact.{facts_with, absent}

-- the fact beside its name
abbrev pub node_of : Fact → Option (List ℕ) → List Assertion → Node
node_of fact parent tags = record { checkin = fact.checkin; parent = parent; tags = tags }

-- the names that are noted where nothing is
pub noted_none : (rows : List (List ℕ × List Assertion)) (noted : List (List ℕ × List Assertion)) → noted ≡ [] → AreNoted (row_in rows) noted rows
noted_none rows noted none = subst (λ es. AreNoted (row_in rows) es rows) (sym none) (λ x. refl)

-- a fact that is to come has no parent yet
pub no_parent : (fact : Fact) (facts : List (List ℕ × Node)) → AreTagFacts (fact ∷ facts_of facts) → parent_in facts fact.name ≡ None
no_parent fact facts fit = ap (option_and_then (λ n. n.parent)) (absent fact facts fit)

-- where its name has no children, nor has what its assertions are on
abbrev kids_of : List (Pair × Unit {0}) → List ℕ → List (List ℕ)
kids_of children name = seconds name children

free_targets : (name : List ℕ) (ks : List ℕ → List (List ℕ)) (as_ : List Assertion) → ks name ≡ [] → AllByRecursion (λ a. a.target ≡ name) as_ → AllByRecursion (λ a. ks a.target ≡ []) as_
free_targets name ks [] free own = tt
free_targets name ks (a ∷ as_) free own = (ap ks own.0 ∙ free, free_targets name ks as_ free own.1)

pub free_items : (name : List ℕ) (children : List (Pair × Unit {0})) (tags items : List Assertion) → items ≡ tags → seconds name children ≡ [] → AllByRecursion (λ a. a.target ≡ name) tags
    → AllByRecursion (λ a. seconds a.target children ≡ []) items
free_items name children tags items is free own = subst (λ as_. AllByRecursion (λ a. seconds a.target children ≡ []) as_) (sym is) (free_targets name (kids_of children) tags free own)

module _ (fact : Fact) (parent : Option (List ℕ)) (tags : List Assertion) (old new : Rows) (parent_is : parent ≡ fact.parent) (tags_are : tags ≡ fact.tags) (was : IsKept old) (fit : AreTagFacts (fact ∷ facts_of old.facts.entries))
    (put : new.facts.entries ≡ with_entry bytes_cmp fact.name (node_of fact parent tags) old.facts.entries) where
  is_fact : fact_of (fact.name, node_of fact parent tags) ≡ fact
  is_fact = λ i. record { name = fact.name; checkin = fact.checkin; parent = parent_is i; tags = tags_are i }

  pub taken_facts : facts_of new.facts.entries ≡ by_name (λ f. f.name) (fact ∷ facts_of old.facts.entries)
  taken_facts = ap facts_of put ∙ facts_with fact.name (node_of fact parent tags) old.facts.entries was.ordered ∙ ap (λ f. by_name (λ f. f.name) (f ∷ facts_of old.facts.entries)) is_fact

  module _ (items : List Assertion) (items_are : items ≡ tags)
      (own : (x tag : List ℕ) → named (λ a. a.tag) (row_in new.own.entries x) tag ≡ greater newer_cmp (named (λ a. a.tag) (row_in old.own.entries x) tag) (newest_on x tag items))
      (right : AreRight new.facts.entries new.children.entries new.own.entries new.rows.entries) where
    pub taken_kept : IsKept new
    taken_kept = record {
      ordered = subst (λ es. IsStrictlySortedBy bytes_cmp (keys_of es)) (sym put) (sorted-insert_entry bytes_cmp-IsTotalOrder fact.name (node_of fact parent tags) old.facts.entries was.ordered);
      fit = subst AreTagFacts (sym taken_facts) (fit_by_name (fact ∷ facts_of old.facts.entries) fit);
      newest = λ x tag.
          own x tag
          ∙ (λ i. greater newer_cmp (was.newest x tag i) (newest_on x tag (items_are i)))
          ∙ sym (direct-with fact.name (node_of fact parent tags) x tag (subst (All (λ a. a.source ≡ fact.name)) (sym tags_are) fit.fit.0.sources) old.facts.entries (sourced (facts_of old.facts.entries) (facts_of old.facts.entries) was.fit.fit) (absent fact old.facts.entries fit))
          ∙ ap (λ es. direct (facts_of es) x tag) (sym put);
      right = right;
    }

    pub taken_lists : (list : List (List ℕ)) → ListsChanged (row_in old.rows.entries) (row_in new.rows.entries) list → ListsChanged (tags_row (facts_of old.facts.entries)) (tags_row (facts_of new.facts.entries)) list
    taken_lists list lists =
        subst (λ after. ListsChanged (tags_row (facts_of old.facts.entries)) after list) (λ i x. kept-row new taken_kept x i)
        (subst (λ before. ListsChanged before (row_in new.rows.entries) list) (λ i x. kept-row old was x i) lists)
