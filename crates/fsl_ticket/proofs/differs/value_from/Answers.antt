use Rattle.std.proofs.Common.{◌∙◌, Some, ap}
use Rattle.fsl_order.specs.Names.{bytes_cmp}
use Rattle.fsl_table.specs.Within.{within}
use Rattle.fsl_table.proofs.Outcomes.{if_ok_map}
use Rattle.fsl_table.proofs.Walk.{from}
use Rattle.fsl_ticket.specs.Newest.{newest_cmp}
use Rattle.fsl_ticket.specs.Walked.{names_until, value_down}
use Rattle.fsl_ticket.proofs.Folding.{until_same}
use Rattle.fsl_ticket.proofs.differs.value_from.Goals as goal

pub returns-in-Ok : goal.returns-in-Ok
returns-in-Ok g c =
    let es = c.args.facts.now.held.entries in
    let field = c.args.field.now in
    let down = from newest_cmp (Some (c.args.first, tt)) (within bytes_cmp c.args.id c.args.spots.now.held.entries) in
    if_ok_map c.copied-value.result
    (λ value is. is ∙ c.in-Ok.ensures field ∙ ap (λ end. value_down es (names_until es (Some end) down) field) (c.in_ok-of.ensures ∙ c.bytes.ensures) ∙ until_same es field down)
    c.copied-value.ensures
