use Rattle.fsl_forms.specs.Writing.{IsTicketText, ticket_cards}
use Rattle.fsl_forms.proofs.TicketAgain.{ticket_again}
use Rattle.fsl_grammar.proofs.SealingLemmas.{sealed}
use Rattle.fsl_forms.proofs.ticket.Ticket.write.Goals as goal

pub returns : goal.returns
returns c =
    let v = c.args.self.now in
    let made = c.in_ok-write_cards.ensures in
    let text : IsTicketText c.finish.new.lines v = sealed _ _ _ (ticket_cards v) c.empty-lines.ensures made.1 c.in_ok-finish.ensures.ok in
    record { written = text; read = ticket_again v c.bytes.ensures.named made.0 c.requires c.finish.new.lines text }
