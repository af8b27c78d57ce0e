use Rattle.std.proofs.Common.{◌≡◌, ◌++◌, map, ap, subst, ◌∙◌, true}
use Rattle.std.specs.Prelude.{flat_map, All}
use Rattle.std.specs.List.{list_any}
use Rattle.std.specs.Str.{bytes_eq}
use Rattle.fsl_ticket.specs.Tickets.{value}
use Rattle.fsl_query.specs.Lines.{ticket_line}
use Rattle.fsl_query.specs.Listings.{dated_change, of_each}
use Rattle.fsl_query.proofs.ListingLemmas.{all_there}
use Rattle.fsl_query.proofs.NewestLemmas.{each_told}
use Rattle.fsl_query.proofs.tickets.lines.Goals as goal

pub append_tickets-requires : goal.append_tickets-requires
append_tickets-requires c =
    subst (λ facts. All (λ e. list_any (λ f. bytes_eq f.id e.1.1) facts ≡ true) c.in_ok-latest.latest.entries) c.requires
    (all_there c.args.changes.now c.in_ok-latest.latest.entries c.rises.ensures c.in_ok-latest.ensures)

pub returns : goal.returns
returns c =
    let facts = c.args.table.now.facts in
    let fields = c.args.table.now.fields in
    let es = c.in_ok-latest.latest.entries in
    c.in_ok-append_tickets.ensures
    ∙ ap (λ t. t ++ flat_map (λ e. ticket_line e.1.0 e.1.1 (map (value facts e.1.1) fields)) es) c.empty-text.ensures
    ∙ each_told es (map dated_change c.args.changes.now) c.rises.ensures c.in_ok-latest.ensures (λ digits latest. ticket_line latest.0 latest.1 (map (value facts latest.1) fields))
    ∙ ap (λ fs. of_each (λ digits latest. ticket_line latest.0 latest.1 (map (value facts latest.1) fields)) (map dated_change fs)) c.requires
