use Rattle.std.proofs.Common.{ap, ◌∙◌}
use Rattle.fsl_order.specs.Rows.{by_name}
use Rattle.fsl_cross.specs.Tables.{Seen, ticket_facts, item_set}
use Rattle.fsl_cross.proofs.Alone.{tickets-alone}
use Rattle.fsl_cross.proofs.tables.Tables.ticket.Goals as goal

pub returns-clause-fields : goal.returns-clause-fields
returns-clause-fields c = c.self.invariant.contents.configured ∙ ap (λ (s : Seen). s.fields) c.self.view_is

pub returns-clause-facts : goal.returns-clause-facts
returns-clause-facts c =
    let items = c.self.inside.items in
    let rise = c.self.invariant.rising in
    c.self.invariant.contents.tickets
    ∙ tickets-alone items rise
    ∙ ap (λ (s : Seen). by_name (λ f. f.name) (ticket_facts (item_set s.items))) c.self.view_is
