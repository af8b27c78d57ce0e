use Rattle.std.proofs.Common.{◌≡◌, ◌∙◌, ℕ, ◌&&◌, ◌≤◌, ◌∷◌, true, map, refl, ap, arith}
use Rattle.std.specs.Prelude.{IfSome}
use Rattle.fsl_order.specs.Names.{bytes_cmp, has}
use Rattle.fsl_order.specs.Rows.{by_name}
use Rattle.fsl_table.specs.Contents.{value_at, with_entry}
use Rattle.fsl_table.proofs.Facts.{absent-entry, facts_with}
use Rattle.fsl_wiki.specs.declared.Fact.{Fact}
use Rattle.fsl_wiki.specs.declared.Fact.TheVariants as fact
use Rattle.fsl_wiki.specs.Pages.{fact_name, as_page}
use Rattle.fsl_wiki.specs.Kept.{entry_of, fact_of, facts_of, is_page}
use Rattle.fsl_wiki.proofs.Canonical.{own, fact_again}
use Rattle.fsl_wiki.proofs.pages.Pages.put.Goals as goal

pub put_either-requires-clause-absent : goal.put_either-requires-clause-absent
put_either-requires-clause-absent g c = λ new.
    (λ i. value_at bytes_cmp c.name-name.result (c.begin.ensures.rows i).facts.entries)
    ∙ absent-entry fact_of fact_name own c.self.inside.maps.facts.held.entries c.name-name.result
    ((λ i. has (map fact_name (c.self.view_is i).facts) (c.name-name.ensures i)) ∙ c.requires.absent new)

pub returns-in-Ok-clause-facts : goal.returns-in-Ok-clause-facts
returns-in-Ok-clause-facts g c =
    ap (λ r. facts_of r.facts.entries) c.ways.ensures.rows ∙ ap facts_of c.in-Ok.ensures.entries
    ∙ (λ i. facts_of (with_entry bytes_cmp (c.name-name.ensures i) (c.of-entry.ensures i) (c.begin.ensures.rows i).facts.entries))
    ∙ facts_with fact_of fact_name own (fact_name c.args.fact) (entry_of c.args.fact) c.self.inside.maps.facts.held.entries c.self.invariant.ordered
    ∙ (λ i. by_name fact_name (fact_again c.args.fact i ∷ (c.self.view_is i).facts))

page_told : (f : Fact) (a b : ℕ) → (is_page (entry_of f) ≡ true → a ≤ b) → IfSome (as_page f) (λ _. a ≤ b)
page_told (fact.Page p) a b h = h refl
page_told (fact.Note n) a b h = tt
page_told (fact.Attached x) a b h = tt

pub returns-in-Ok-clause-cost : goal.returns-in-Ok-clause-cost
returns-in-Ok-clause-cost g c = λ new.
    page_told c.args.fact _ _ (λ page.
    let cost = c.in-Ok.ensures.cost ((λ i. new i && is_page (c.of-entry.ensures i)) ∙ page) in
    omega (arith, cost))

pub returns-in-Err-clause-cost : goal.returns-in-Err-clause-cost
returns-in-Err-clause-cost g c = λ new.
    page_told c.args.fact _ _ (λ page.
    let is : (c.args.new && is_page c.of-entry.result) ≡ true = (λ i. new i && is_page (c.of-entry.ensures i)) ∙ page in
    let cost = c.in-Err.ensures.cost is in
    let back = c.in-Err.ensures.back is in
    omega (arith, c.begin.ensures.back, cost, back, c.turn_back.ensures.cost))
