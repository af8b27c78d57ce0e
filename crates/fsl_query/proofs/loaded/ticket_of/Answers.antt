use Rattle.std.proofs.Common.{◌≡◌, Err, ℕ, List, Ok, sym, subst}
use Rattle.std.proofs.lemmas.Result.{err_from_is_err_and}
use Rattle.fsl_cross.specs.Tables.{tables}
use Rattle.fsl_query.proofs.Alone.{tickets-alone}
use Rattle.fsl_query.specs.declared.Refused.TheVariants as refused_as
use Rattle.fsl_query.specs.Answers.{IsAnswer}
use Rattle.fsl_query.specs.Listings.{ticket_ids}
use Rattle.fsl_query.specs.Reports.{of_beginning, ticket_report}
use Rattle.fsl_query.proofs.Beginnings.{beginning_err, beginning_one}
use Rattle.fsl_query.proofs.loaded.ticket_of.Goals as goal

pub returns-in_err-id : goal.returns-in_err-id
returns-in_err-id c =
    let t = tables c.args.fields.now c.args.items.now in
    let alone = tickets-alone c.args.items.now c.requires in
    let p = err_from_is_err_and c.from_residual.result c.from_residual.ensures.1 in
    let none = refused_as.NoTicket c.args.prefix.now in
    rw (p.1, p.2)
    (beginning_err (ticket_report t.fields t.tickets t.pages) c.args.prefix.now none (ticket_ids t.tickets) c.in_err-id.field-0.0
    (subst (λ facts. IsAnswer (of_beginning {X = List ℕ} (ticket_ids facts) c.args.prefix.now none (λ id. Ok id)) (Err c.in_err-id.field-0.0)) alone c.in_err-id.ensures))

pub returns : goal.returns
returns c =
    let t = tables c.args.fields.now c.args.items.now in
    let alone = tickets-alone c.args.items.now c.requires in
    let none = refused_as.NoTicket c.args.prefix.now in
    let due =
    beginning_one (ticket_report t.fields t.tickets t.pages) c.args.prefix.now none (ticket_ids t.tickets) c.in_ok-id.id
    (subst (λ facts. of_beginning {X = List ℕ} (ticket_ids facts) c.args.prefix.now none (λ id. Ok id) ≡ Ok c.in_ok-id.id) alone c.in_ok-id.ensures) in
    subst (λ d. IsAnswer d c.ticket_whole.result) (sym due) c.ticket_whole.ensures
