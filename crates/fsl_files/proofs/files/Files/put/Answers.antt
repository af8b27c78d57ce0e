use Rattle.std.proofs.Common.{◌≡◌, ◌∙◌, ◌∷◌, List, ℕ, None, false, map, refl, sym, ap, arith}
use Rattle.std.proofs.Math.Path.{transport}
use Rattle.fsl_order.specs.Names.{bytes_cmp, has}
use Rattle.fsl_order.specs.TableState.{TableState}
use Rattle.fsl_order.specs.Rows.{by_name}
use Rattle.fsl_table.specs.Contents.{value_at, with_entry}
use Rattle.fsl_table.proofs.Facts.{absent-entry, facts_with}
use Rattle.fsl_files.specs.declared.Fact.{Fact}
use Rattle.fsl_files.specs.Kept.{IsUnfollowed, Rows, entry_of, fact_of, facts_of, held_of, rows_of}
use Rattle.fsl_files.proofs.Followed.{unfollowed}
use Rattle.fsl_files.proofs.files.Files.put.Goals as goal

pub returns-in-Ok-clause-facts : goal.returns-in-Ok-clause-facts
returns-in-Ok-clause-facts g c =
    ap (λ r. facts_of r.facts.entries) c.ways.ensures.rows ∙ ap facts_of c.in-Ok.ensures.entries
    ∙ (λ i. facts_of (with_entry bytes_cmp (c.line_of.ensures i).0 (c.line_of.ensures i).1 (c.begin.ensures.rows i).facts.entries))
    ∙ facts_with fact_of (λ f. f.name) (λ e. refl) c.args.fact.name (entry_of c.args.fact) c.self.inside.maps.facts.held.entries c.self.invariant.ordered
    ∙ ap (λ h. by_name (λ f. f.name) (c.args.fact ∷ h.facts)) c.self.view_is

-- what an absent check-in that no other names takes
absent_is : (r : Rows) (h : TableState Fact) (name : List ℕ) → held_of r ≡ h → has (map (λ f. f.name) h.facts) name ≡ false → value_at bytes_cmp name r.facts.entries ≡ None
absent_is r h name is absent = absent-entry fact_of (λ f. f.name) (λ e. refl) r.facts.entries name (ap (λ h. has (map (λ f. f.name) h.facts) name) is ∙ absent)

pub returns-in-Ok-clause-cost : goal.returns-in-Ok-clause-cost
returns-in-Ok-clause-cost g c = λ absent alone.
    let r = rows_of c.self.inside.maps in
    let name = c.args.fact.name in
    let none = (λ i. value_at bytes_cmp (c.line_of.ensures i).0 (c.begin.ensures.rows i).facts.entries) ∙ absent_is r c.args.self.now name c.self.view_is absent in
    let free = transport (λ i. IsUnfollowed ((sym c.begin.ensures.rows) i) ((sym c.line_of.ensures) i).0) (unfollowed r c.args.self.now name c.self.invariant c.self.view_is alone) in
    let cost = c.in-Ok.ensures.cost none free in
    omega (arith, cost)

pub returns-in-Err-clause-cost : goal.returns-in-Err-clause-cost
returns-in-Err-clause-cost g c = λ absent alone.
    let r = rows_of c.self.inside.maps in
    let name = c.args.fact.name in
    let none = (λ i. value_at bytes_cmp (c.line_of.ensures i).0 (c.begin.ensures.rows i).facts.entries) ∙ absent_is r c.args.self.now name c.self.view_is absent in
    let free = transport (λ i. IsUnfollowed ((sym c.begin.ensures.rows) i) ((sym c.line_of.ensures) i).0) (unfollowed r c.args.self.now name c.self.invariant c.self.view_is alone) in
    let cost = c.in-Err.ensures.cost none free in
    let back = c.in-Err.ensures.back none in
    omega (arith, c.begin.ensures.back, cost, back, c.turn_back.ensures.cost)
