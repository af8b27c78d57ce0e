use Rattle.std.proofs.Common.{◌≡◌, ◌∙◌, ◌∷◌, [], List, ℕ, None, false, length, arith, map, refl, ap}
use Rattle.fsl_order.specs.Names.{bytes_cmp, has}
use Rattle.fsl_order.specs.Rows.{by_name}
use Rattle.fsl_order.specs.TableState.{TableState}
use Rattle.fsl_table.specs.Contents.{value_at, with_entry}
use Rattle.fsl_table.specs.Pairs.{seconds}
use Rattle.fsl_table.proofs.Facts.{absent-entry, facts_with}
use Rattle.fsl_links.specs.Links.{children}
use Rattle.fsl_links.specs.declared.Fact.{Fact}
use Rattle.fsl_links.specs.Kept.{IsKept, Rows, fact_of, facts_of, held_of, rows_of}
use Rattle.fsl_links.proofs.Reading.{seconds-children}
use Rattle.fsl_links.proofs.links.Links.put.Goals as goal

pub returns-in-Ok-clause-facts : goal.returns-in-Ok-clause-facts
returns-in-Ok-clause-facts g c =
    ap (λ r. facts_of r.facts.entries) c.ways.ensures.rows ∙ ap facts_of c.in-Ok.ensures.entries
    ∙ ap (λ r. facts_of (with_entry bytes_cmp c.args.fact.name c.args.fact.parents r.facts.entries)) c.begin.ensures.rows
    ∙ facts_with fact_of (λ f. f.name) (λ e. refl) c.args.fact.name c.args.fact.parents c.self.inside.maps.facts.held.entries c.self.invariant.ordered
    ∙ ap (λ h. by_name (λ f. f.name) (c.args.fact ∷ h.facts)) c.self.view_is

-- what an absent check-in without children takes
absent_is : (r : Rows) (h : TableState Fact) (name : List ℕ) → held_of r ≡ h → has (map (λ f. f.name) h.facts) name ≡ false → value_at bytes_cmp name r.facts.entries ≡ None
absent_is r h name is absent = absent-entry fact_of (λ f. f.name) (λ e. refl) r.facts.entries name (ap (λ h. has (map (λ f. f.name) h.facts) name) is ∙ absent)

none_is : (r : Rows) (h : TableState Fact) (name : List ℕ) → IsKept r → held_of r ≡ h → children h.facts name ≡ [] → length (seconds name r.children.entries) ≡ 0
none_is r h name kept is none = ap length (seconds-children r name kept ∙ ap (λ h. children h.facts name) is ∙ none)

pub returns-in-Ok-clause-cost : goal.returns-in-Ok-clause-cost
returns-in-Ok-clause-cost g c = λ absent none.
    let old = rows_of c.self.inside.maps in
    let name = c.args.fact.name in
    let empty : length (seconds name c.begin.new.self.children.held.entries) ≡ 0 = ap (λ r. length (seconds name r.children.entries)) c.begin.ensures.rows ∙ none_is old c.args.self.now name c.self.invariant c.self.view_is none in
    let cost = c.in-Ok.ensures.cost (ap (λ r. value_at bytes_cmp name r.facts.entries) c.begin.ensures.rows ∙ absent_is old c.args.self.now name c.self.view_is absent) in
    omega (arith, empty, cost)

pub returns-in-Err-clause-cost : goal.returns-in-Err-clause-cost
returns-in-Err-clause-cost g c = λ absent none.
    let old = rows_of c.self.inside.maps in
    let name = c.args.fact.name in
    let empty : length (seconds name c.begin.new.self.children.held.entries) ≡ 0 = ap (λ r. length (seconds name r.children.entries)) c.begin.ensures.rows ∙ none_is old c.args.self.now name c.self.invariant c.self.view_is none in
    let gone = ap (λ r. value_at bytes_cmp name r.facts.entries) c.begin.ensures.rows ∙ absent_is old c.args.self.now name c.self.view_is absent in
    let cost = c.in-Err.ensures.cost gone in
    let back = c.in-Err.ensures.back gone in
    omega (arith, empty, c.begin.ensures.back, cost, back, c.turn_back.ensures.cost)
