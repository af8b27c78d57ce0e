use Rattle.std.proofs.Common.{sym, ◌∙◌}
use Rattle.fsl_query.proofs.Alone.{tickets-alone}
use Rattle.fsl_query.specs.Listings.{tickets_lines}
use Rattle.fsl_query.proofs.Outcomes.{if_ok_map}
use Rattle.fsl_query.proofs.listing.tickets_lines.Goals as goal

pub tickets_by-text-requires : goal.tickets_by-text-requires
tickets_by-text-requires c = tickets-alone c.args.items.now c.requires ∙ sym c.in_ok-table.ensures.facts

pub returns : goal.returns
returns c =
    let alone = c.in_ok-table.ensures.facts ∙ sym (tickets-alone c.args.items.now c.requires) in
    if_ok_map c.tickets_by-text.result (λ text is. is ∙ (λ i. tickets_lines (c.in_ok-table.ensures.fields i) (alone i))) c.tickets_by-text.ensures
