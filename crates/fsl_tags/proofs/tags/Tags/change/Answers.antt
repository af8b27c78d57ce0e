use Rattle.std.proofs.Common.{◌∙◌, ◌∷◌, ap, sym, subst}
use Rattle.fsl_order.specs.Rows.{by_name}
use Rattle.fsl_tags.specs.Held.{IsKept, facts_of, rows_of}
use Rattle.fsl_tags.specs.Tags.{AreTagFacts}
use Rattle.fsl_tags.proofs.Fit.{fit_moved}
use Rattle.fsl_tags.proofs.tags.Tags.change.Goals as goal

pub give_parent-requires-clause-kept : goal.give_parent-requires-clause-kept
give_parent-requires-clause-kept g c = subst IsKept (sym c.begin.ensures.rows) c.self.invariant

pub give_parent-requires-clause-fit : goal.give_parent-requires-clause-fit
give_parent-requires-clause-fit g c =
    subst (λ r. AreTagFacts (by_name (λ f. f.name) (c.args.fact ∷ facts_of r.facts.entries))) (sym c.begin.ensures.rows)
    (fit_moved c.args.fact (rows_of c.self.inside.maps) c.args.self.now c.self.view_is c.self.invariant.ordered c.self.invariant.fit c.requires.change c.requires.fit)

pub returns-in-Ok-clause-facts : goal.returns-in-Ok-clause-facts
returns-in-Ok-clause-facts g c =
    ap (λ r. facts_of r.facts.entries) c.ways.ensures.rows ∙ c.in-Ok.ensures.facts
    ∙ ap (λ r. by_name (λ f. f.name) (c.args.fact ∷ facts_of r.facts.entries)) c.begin.ensures.rows
    ∙ ap (λ h. by_name (λ f. f.name) (c.args.fact ∷ h.facts)) c.self.view_is
