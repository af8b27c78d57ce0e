use Rattle.std.proofs.Common.{ap, sym, subst, ◌∙◌}
use Rattle.fsl_repo.specs.Machine.{now}
use Rattle.fsl_words.specs.declared.Question.{Question}
use Rattle.fsl_query.specs.Answers.{IsAnswer}
use Rattle.fsl_query.specs.Reports.{report_in, tables_now, ticket_of_prefix}
use Rattle.fsl_query.proofs.answering.answer.Goals as goal

pub returns-in-Ticket : goal.returns-in-Ticket
returns-in-Ticket g c =
    let seen = c.args.repo.now.seen in
    subst (λ d. IsAnswer d c.ticket_of.result)
    (ap (ticket_of_prefix (tables_now (now seen.state) seen.items)) c.bytes-in-Ticket.ensures ∙ sym (ap (λ (q : Question). report_in seen q) c.in-Ticket.is)) c.ticket_of.ensures
