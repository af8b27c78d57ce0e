use Rattle.std.proofs.Common.{◌≡◌, ◌∙◌, ◌∷◌, [], false, sym, subst, arith, ap, map}
use Rattle.fsl_order.specs.Names.{has}
use Rattle.fsl_order.specs.Rows.{by_name}
use Rattle.fsl_order.specs.TableState.{TableState}
use Rattle.fsl_table.specs.Pairs.{seconds}
use Rattle.fsl_tags.specs.declared.Fact.{Fact}
use Rattle.fsl_tags.specs.Held.{IsKept, Rows, facts_of, held_of, rows_of}
use Rattle.fsl_tags.specs.Tags.{AreTagFacts, IsTagFact}
use Rattle.fsl_tags.proofs.Fit.{fit_more}
use Rattle.fsl_tags.proofs.NoKids.{no_kids}
use Rattle.fsl_tags.proofs.WithFact.{absent}
use Rattle.fsl_tags.proofs.tags.Tags.add.Goals as goal

-- a fact that isn't there has no children
childless : (fact : Fact) (r : Rows) (held : TableState Fact) → held_of r ≡ held → IsKept r → has (map (λ f. f.name) held.facts) fact.name ≡ false → IsTagFact (fact ∷ held.facts) fact → seconds fact.name r.children.entries ≡ []
childless fact r held is kept new fit = no_kids r kept fact.name (absent fact r.facts.entries (fit_more fact r held is kept.fit new fit))

pub take_in-requires-clause-kept : goal.take_in-requires-clause-kept
take_in-requires-clause-kept g c = subst IsKept (sym c.begin.ensures.rows) c.self.invariant

pub take_in-requires-clause-fit : goal.take_in-requires-clause-fit
take_in-requires-clause-fit g c =
    let old = rows_of c.self.inside.maps in
    subst (λ r. AreTagFacts (c.args.fact ∷ facts_of r.facts.entries)) (sym c.begin.ensures.rows) (fit_more c.args.fact old c.args.self.now c.self.view_is c.self.invariant.fit c.requires.absent c.requires.fit)

pub returns-in-Ok-clause-cost : goal.returns-in-Ok-clause-cost
returns-in-Ok-clause-cost g c = λ own.
    let free = childless c.args.fact (rows_of c.self.inside.maps) c.args.self.now c.self.view_is c.self.invariant c.requires.absent c.requires.fit in
    let t = c.in-Ok.ensures.touches (ap (λ r. seconds c.args.fact.name r.children.entries) c.begin.ensures.rows ∙ free) own in
    omega (arith, t)

pub returns-in-Err-clause-cost : goal.returns-in-Err-clause-cost
returns-in-Err-clause-cost g c = λ own.
    let free = childless c.args.fact (rows_of c.self.inside.maps) c.args.self.now c.self.view_is c.self.invariant c.requires.absent c.requires.fit in
    let gone = ap (λ r. seconds c.args.fact.name r.children.entries) c.begin.ensures.rows ∙ free in
    let t = c.in-Err.ensures.touches gone own in
    let b = c.in-Err.ensures.back gone own in
    omega (arith, t, b, c.begin.ensures.back, c.turn_back.ensures.cost)

pub returns-in-Ok-clause-facts : goal.returns-in-Ok-clause-facts
returns-in-Ok-clause-facts g c =
    ap (λ r. facts_of r.facts.entries) c.ways.ensures.rows ∙ c.in-Ok.ensures.facts
    ∙ ap (λ r. by_name (λ f. f.name) (c.args.fact ∷ facts_of r.facts.entries)) c.begin.ensures.rows
    ∙ ap (λ h. by_name (λ f. f.name) (c.args.fact ∷ h.facts)) c.self.view_is
