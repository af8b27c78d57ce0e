use Rattle.fsl_forms.specs.Writing.{IsControlText, control_cards}
use Rattle.fsl_forms.proofs.ControlAgain.{control_again}
use Rattle.fsl_grammar.proofs.SealingLemmas.{sealed}
use Rattle.fsl_forms.proofs.control.Control.write.Goals as goal

pub returns : goal.returns
returns c =
    let v = c.args.self.now in
    let made = c.in_ok-write_cards.ensures in
    let text : IsControlText c.finish.new.lines v = sealed _ _ _ (control_cards v) c.empty-lines.ensures made.1 c.in_ok-finish.ensures.ok in
    record { written = text; read = control_again v (rw c.items.ensures at c.know_tags.ensures) made.0 c.requires c.finish.new.lines text }
