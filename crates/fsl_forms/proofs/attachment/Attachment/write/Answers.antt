use Rattle.fsl_forms.specs.Writing.{IsAttachmentText, attachment_cards}
use Rattle.fsl_forms.proofs.AttachmentAgain.{attachment_again}
use Rattle.fsl_grammar.proofs.SealingLemmas.{sealed}
use Rattle.fsl_forms.proofs.attachment.Attachment.write.Goals as goal

pub returns : goal.returns
returns c =
    let v = c.args.self.now in
    let made = c.in_ok-write_cards.ensures in
    let text : IsAttachmentText c.finish.new.lines v = sealed _ _ _ (attachment_cards v) c.empty-lines.ensures made.1 c.in_ok-finish.ensures.ok in
    record { written = text; read = attachment_again v c.know_ref.ensures made.0 c.requires c.finish.new.lines text }
