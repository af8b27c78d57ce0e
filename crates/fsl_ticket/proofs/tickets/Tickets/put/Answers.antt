use Rattle.std.proofs.Common.{◌∙◌, ◌∷◌, refl, ap}
use Rattle.fsl_order.specs.Rows.{by_name}
use Rattle.fsl_table.proofs.Facts.{facts_with}
use Rattle.fsl_ticket.specs.Kept.{entry_of, fact_of, facts_of, with_fact}
use Rattle.fsl_ticket.proofs.tickets.Tickets.put.Goals as goal

pub returns-in-Ok-clause-facts : goal.returns-in-Ok-clause-facts
returns-in-Ok-clause-facts g c =
    ap (λ r. facts_of r.facts.entries) c.ways.ensures.rows ∙ ap facts_of c.in-Ok.ensures.entries
    ∙ ap (λ r. facts_of (with_fact c.args.fact r.facts.entries)) c.begin.ensures.rows
    ∙ facts_with fact_of (λ f. f.name) (λ e. refl) c.args.fact.name (entry_of c.args.fact) c.self.inside.maps.facts.held.entries c.self.invariant.laid.ordered
    ∙ ap (λ h. by_name (λ f. f.name) (c.args.fact ∷ h.facts)) c.self.view_is
