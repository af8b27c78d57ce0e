use Rattle.fsl_query.proofs.ListingLemmas.{ticket_put}
use Rattle.fsl_query.proofs.Outcomes.{on_ok_map}
use Rattle.fsl_query.proofs.tickets.append_ticket.Goals as goal

pub returns : goal.returns
returns c =
    on_ok_map c.append.result
    (λ ended. ticket_put c.args.into.now _ _ _ c.args.date c.args.id c.args.values.now c.in_ok-append_stamp.ensures c.in_ok-append_values.ensures ended)
    c.append.ensures.ok
