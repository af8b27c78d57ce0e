-- No fact that is kept has a primary parent that isn't there.
use mathlib.Core.Bool.{true≢false}
use Rattle.std.specs.Prelude.{◌≡◌, ℕ, List, [], ◌∷◌, true, false, cond, Some, None, IfSome, IsTrue, option_and_then}
use Rattle.std.proofs.Common.{refl, sym, ap, ◌∙◌, subst}
use Rattle.std.specs.List.{AllByRecursion}
use Rattle.std.specs.Option.{option_map_or}
use Rattle.std.specs.Ordering.{is_eq}
use Rattle.std.specs.Cmp.Lexicographic.{texts_ties, nat_list_eq_equiv}
use Rattle.fsl_order.specs.Names.{bytes_cmp}
use Rattle.fsl_order.specs.Rows.{named}
use Rattle.fsl_order.proofs.RowLemmas.{named-All}
use Rattle.fsl_table.specs.Contents.{value_at}
use Rattle.fsl_tags.specs.declared.node.Node.{Node}
use Rattle.fsl_tags.specs.Tags.{IsTagFact}
use Rattle.fsl_table.specs.Pairs.{seconds}
use Rattle.fsl_tags.specs.Laid.{parent_in}
use Rattle.fsl_tags.specs.Held.{Rows, IsKept, fact_of, facts_of}
use Rattle.fsl_tags.proofs.Settled.{kids-parents}
use Rattle.fsl_tags.proofs.Effective.{parent-is}

named-none : (name : List ℕ) (es : List (List ℕ × Node)) → value_at bytes_cmp name es ≡ None → named (λ f. f.name) (facts_of es) name ≡ None
named-none name [] h = refl
named-none name (e ∷ es) h =
    ap (λ b. cond b (Some (fact_of e)) (named (λ f. f.name) (facts_of es) name)) (nat_list_eq_equiv.symm e.0 name ∙ texts_ties name e.0)
    ∙ elim (is_eq (bytes_cmp name e.0)) as (λ b. cond b (Some e.1) (value_at bytes_cmp name es) ≡ None → cond b (Some (fact_of e)) (named (λ f. f.name) (facts_of es) name) ≡ None) [
      | true ↦ λ r. cc
      | false ↦ λ r. named-none name es r
    ] h

module _ (r : Rows) (kept : IsKept r) (name : List ℕ) (none : value_at bytes_cmp name r.facts.entries ≡ None) where
  orphan : (c : List ℕ) → parent_in r.facts.entries c ≡ Some name → ⊥
  orphan c h =
      elim (named (λ f. f.name) (facts_of r.facts.entries) c) as (λ o. named (λ f. f.name) (facts_of r.facts.entries) c ≡ o → option_and_then (λ f. f.parent) o ≡ Some name → ⊥) [
        | None ↦ λ _ q. cc
        | Some f ↦ λ found q.
            let fit = named-All (λ f. f.name) (IsTagFact (facts_of r.facts.entries)) (facts_of r.facts.entries) kept.fit.fit c f found in
            let child = subst (λ p. IfSome p (λ up. IsTrue f.checkin × IsTrue (option_map_or (λ f. f.checkin) (named (λ f. f.name) (facts_of r.facts.entries) up) false))) q fit.child in
            true≢false (sym (subst (λ o. IsTrue (option_map_or (λ f. f.checkin) o false)) (named-none name r.facts.entries none) child.1))
      ] refl (parent-is r.facts.entries c ∙ h)

  pub no_kids : seconds name r.children.entries ≡ []
  no_kids = empty (seconds name r.children.entries) (kids-parents r.facts.entries r.children.entries r.own.entries kept.right.laid name)
    where
      empty : (cs : List (List ℕ)) → AllByRecursion (λ c. parent_in r.facts.entries c ≡ Some name) cs → cs ≡ []
      empty [] all = refl
      empty (c ∷ cs) all = absurd (orphan c all.0)
