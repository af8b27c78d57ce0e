-- The rows that are kept are the effective assertions of the definitions.
use Rattle.std.specs.Prelude.{◌≡◌, ℕ, ◌+◌, ◌-◌, ◌≤◌, List, [], ◌∷◌, length, true, false, cond, Some, option_and_then}
use Rattle.std.proofs.Common.{refl, sym, ap, ◌∙◌, subst, arith}
use Rattle.std.specs.Str.{bytes_eq}
use Rattle.std.specs.Cmp.Lexicographic.{texts_ties, nat_list_eq_equiv}
use Rattle.std.proofs.Math.ListN.{length-map}
use Rattle.std.proofs.lemmas.List.Sums.{count_by-le-length}
use Rattle.fsl_order.specs.Names.{bytes_cmp}
use Rattle.fsl_order.specs.Rows.{named}
use Rattle.fsl_table.specs.Contents.{value_at}
use Rattle.fsl_tags.specs.declared.node.Node.{Node}
use Rattle.fsl_tags.specs.Tags.{parent, checkins, effective, tags_row}
use Rattle.fsl_tags.specs.Climbed.{lim}
use Rattle.fsl_tags.specs.Laid.{row_in, parent_in}
use Rattle.fsl_tags.specs.Held.{Rows, IsKept, fact_of, facts_of}
use Rattle.fsl_tags.proofs.RowsOf.{Rise, of_tag, is_tags_row}
use Rattle.fsl_tags.proofs.Limits.{effective-more}
use Rattle.fsl_tags.proofs.Climbs.{climbed-finds}
use Rattle.fsl_tags.proofs.Settled.{settled-rises}

pub parent-is : (facts : List (List ℕ × Node)) (x : List ℕ) → parent (facts_of facts) x ≡ parent_in facts x
parent-is [] x = refl
parent-is (e ∷ facts) x =
    elim (bytes_eq e.0 x) as (λ b. option_and_then (λ f. f.parent) (cond b (Some (fact_of e)) (named (λ f. f.name) (facts_of facts) x)) ≡ option_and_then (λ n. n.parent) (cond b (Some e.1) (value_at bytes_cmp x facts))) [
      | true ↦ refl
      | false ↦ parent-is facts x
    ]
    ∙ ap (λ b. option_and_then (λ n. n.parent) (cond b (Some e.1) (value_at bytes_cmp x facts))) (nat_list_eq_equiv.symm e.0 x ∙ texts_ties x e.0)

module _ (r : Rows) (kept : IsKept r) where
  few : checkins (facts_of r.facts.entries) ≤ length r.facts.entries
  few =
      let a = count_by-le-length (λ f. f.checkin) (facts_of r.facts.entries) in
      let b = length-map r.facts.entries fact_of in
      omega (arith, a, b)

  finds : (x tag : List ℕ) → of_tag (row_in r.rows.entries x) tag ≡ effective (facts_of r.facts.entries) x tag
  finds x tag =
      let fs = r.facts.entries in
      let more : length fs ≡ checkins (facts_of fs) + (length fs - checkins (facts_of fs)) = omega (arith, few) in
      ap (λ row. of_tag row tag) (kept.right.right x)
      ∙ climbed-finds (parent_in fs) (row_in r.own.entries) kept.right.laid.rise tag (length fs) x
      ∙ (λ i. lim (λ y. sym (parent-is fs y) i) (λ y. kept.newest y tag i) (more i) x)
      ∙ effective-more (facts_of fs) tag kept.fit (length fs - checkins (facts_of fs)) x

  pub kept-row : (x : List ℕ) → row_in r.rows.entries x ≡ tags_row (facts_of r.facts.entries) x
  kept-row x =
      is_tags_row (facts_of r.facts.entries) x (row_in r.rows.entries x)
      (subst Rise (sym (kept.right.right x)) (settled-rises r.facts.entries r.own.entries kept.right.laid.rise x))
      (finds x)

  pub kept-finds : (x tag : List ℕ) → of_tag (row_in r.rows.entries x) tag ≡ effective (facts_of r.facts.entries) x tag
  kept-finds x tag = finds x tag

  pub kept-rises : (x : List ℕ) → Rise (row_in r.rows.entries x)
  kept-rises x = subst Rise (sym (kept.right.right x)) (settled-rises r.facts.entries r.own.entries kept.right.laid.rise x)
