use Rattle.std.proofs.Common.{ℕ, List, Ok, ap, sym, subst}
use Rattle.std.specs.Prelude.{Result}
use Rattle.std.specs.Option.{option_map_or}
use Rattle.fsl_blobs.specs.Held.{found}
use Rattle.fsl_cross.specs.Tables.{ticket_facts}
use Rattle.fsl_name.proofs.NameTexts.{name_of_text, no_name_of_text}
use Rattle.fsl_query.specs.declared.Refused.{Refused}
use Rattle.fsl_query.specs.declared.Refused.TheVariants.{NoTicket}
use Rattle.fsl_query.specs.Answers.{IsAnswer}
use Rattle.fsl_query.specs.Listings.{beginning, ticket_ids}
use Rattle.fsl_query.specs.Reports.{by_beginning}
use Rattle.fsl_query.proofs.listing.ticket_id.Goals as goal

pub returns-in-Ok : goal.returns-in-Ok
returns-in-Ok c =
    let p = c.args.prefix.now in
    let other : Result (List ℕ) Refused = by_beginning p (NoTicket p) (λ id. Ok id) (found (beginning p (ticket_ids (ticket_facts c.args.items.now)))) in
    ap (λ o. option_map_or (λ id. Ok id) o other) (name_of_text p c.in-Ok.id c.in-Ok.ensures.value)

pub returns-in-Err : goal.returns-in-Err
returns-in-Err c =
    let p = c.args.prefix.now in
    let other : Result (List ℕ) Refused = by_beginning p (NoTicket p) (λ id. Ok id) (found (beginning p (ticket_ids (ticket_facts c.args.items.now)))) in
    subst (λ o. IsAnswer (option_map_or (λ id. Ok id) o other) c.ticket_named.result) (sym (no_name_of_text p c.in-Err.field-0 c.in-Err.ensures.value)) c.ticket_named.ensures
