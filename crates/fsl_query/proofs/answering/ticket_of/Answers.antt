use Rattle.std.proofs.Common.{◌≡◌, Err, ℕ, List, Ok, sym, subst, ◌∙◌}
use Rattle.std.proofs.lemmas.Result.{err_from_is_err_and}
use Rattle.fsl_cross.specs.Tables as cross
use Rattle.fsl_repo.specs.Machine.{now}
use Rattle.fsl_query.specs.declared.Refused.TheVariants as refused_as
use Rattle.fsl_query.specs.Answers.{IsAnswer}
use Rattle.fsl_query.specs.Listings.{ticket_ids}
use Rattle.fsl_query.specs.Reports.{of_beginning, ticket_report, tables_now}
use Rattle.fsl_query.proofs.Beginnings.{beginning_err, beginning_one}
use Rattle.fsl_query.proofs.RepoLemmas.{own_changes}
use Rattle.fsl_query.proofs.answering.ticket_of.Goals as goal

pub returns-in_err-id : goal.returns-in_err-id
returns-in_err-id g c =
    let seen = c.args.repo.now.seen in
    let t = tables_now (now seen.state) seen.items in
    let none = refused_as.NoTicket c.args.prefix.now in
    let changes = own_changes seen c.is_whole.ensures.seen.items c.items.result.now (c.items.ensures ∙ c.tables-tables.ensures.items) in
    let p = err_from_is_err_and c.from_residual.result c.from_residual.ensures.1 in
    rw (p.1, p.2)
    (beginning_err (ticket_report t.fields t.tickets t.pages) c.args.prefix.now none (ticket_ids t.tickets) c.in_err-id.field-0.0
    (subst (λ facts. IsAnswer (of_beginning {X = List ℕ} (ticket_ids facts) c.args.prefix.now none (λ id. Ok id)) (Err c.in_err-id.field-0.0)) changes c.in_err-id.ensures))

pub returns : goal.returns
returns g c =
    let seen = c.args.repo.now.seen in
    let t = tables_now (now seen.state) seen.items in
    let own = c.tables-tables.ensures in
    let none = refused_as.NoTicket c.args.prefix.now in
    let id = c.in_ok-id.id in
    let changes = own_changes seen c.is_whole.ensures.seen.items c.items.result.now (c.items.ensures ∙ own.items) in
    let fields : c.ticket.result.now.fields ≡ t.fields = c.ticket.ensures.fields ∙ (λ i. (cross.tables (own.fields i) (own.items i)).fields) in
    let changed : c.ticket.result.now.facts ≡ t.tickets = c.ticket.ensures.facts ∙ (λ i. (cross.tables (own.fields i) (own.items i)).tickets) in
    let pages : c.wiki.result.now.facts ≡ t.pages = c.wiki.ensures.facts ∙ (λ i. (cross.tables (own.fields i) (own.items i)).pages) in
    let due =
    beginning_one (ticket_report t.fields t.tickets t.pages) c.args.prefix.now none (ticket_ids t.tickets) id
    (subst (λ facts. of_beginning {X = List ℕ} (ticket_ids facts) c.args.prefix.now none (λ id. Ok id) ≡ Ok id) changes c.in_ok-id.ensures) in
    subst (λ d. IsAnswer d c.report.result) ((λ i. ticket_report (fields i) (changed i) (pages i) id) ∙ sym due) c.report.ensures
