use Rattle.fsl_forms.specs.Writing.{IsTechnoteText, technote_cards}
use Rattle.fsl_forms.proofs.TechnoteAgain.{technote_again}
use Rattle.fsl_grammar.proofs.SealingLemmas.{sealed}
use Rattle.fsl_forms.proofs.technote.Technote.write.Goals as goal

pub returns : goal.returns
returns c =
    let v = c.args.self.now in
    let made = c.in_ok-write_cards.ensures in
    let text : IsTechnoteText c.finish.new.lines v = sealed _ _ _ (technote_cards v) c.empty-lines.ensures made.2 c.in_ok-finish.ensures.ok in
    record { written = text; read = technote_again v c.bytes.ensures.named (rw c.items.ensures at c.know_refs.ensures) (rw c.items-2.ensures at c.know_tags.ensures) made.0 made.1 c.know_length.ensures c.requires c.finish.new.lines text }
