use Rattle.fsl_grammar.specs.Forms.{HasOne, HasAtMostOne, date_form, text_form, user_form}
use Rattle.fsl_forms.specs.declared.attachment.Attachment.{Attachment}
use Rattle.fsl_forms.specs.Kinds.{IsAttachment, attached_form}
use Rattle.fsl_forms.proofs.PartLemmas.{part_unread}
use Rattle.fsl_forms.proofs.attachment.read_cards.Goals as goal

pub returns-in_err-attached : goal.returns-in_err-attached
returns-in_err-attached c =
    part_unread (IsAttachment c.args.cards.now) (λ x. HasOne c.args.cards.now 65 attached_form x) (λ (a : Attachment). record { file = a.file; target = a.target; source = a.source }) (λ a h. h.attached)
    c.from_residual-in_err-attached.result _ c.from_residual-in_err-attached.ensures.1 c.in_err-attached.ensures

pub returns-in_err-comment : goal.returns-in_err-comment
returns-in_err-comment c =
    part_unread (IsAttachment c.args.cards.now) (λ x. HasAtMostOne c.args.cards.now 67 text_form x) (λ (a : Attachment). a.comment) (λ a h. h.comment)
    c.from_residual-in_err-comment.result _ c.from_residual-in_err-comment.ensures.1 c.in_err-comment.ensures

pub returns-in_err-date : goal.returns-in_err-date
returns-in_err-date c =
    part_unread (IsAttachment c.args.cards.now) (λ x. HasOne c.args.cards.now 68 date_form x) (λ (a : Attachment). a.date) (λ a h. h.date)
    c.from_residual.result _ c.from_residual.ensures.1 c.in_err-date.ensures

pub returns-in_err-mime : goal.returns-in_err-mime
returns-in_err-mime c =
    part_unread (IsAttachment c.args.cards.now) (λ x. HasAtMostOne c.args.cards.now 78 text_form x) (λ (a : Attachment). a.mime) (λ a h. h.mime)
    c.from_residual-in_err-mime.result _ c.from_residual-in_err-mime.ensures.1 c.in_err-mime.ensures

pub returns-in_err-user : goal.returns-in_err-user
returns-in_err-user c =
    part_unread (IsAttachment c.args.cards.now) (λ x. HasAtMostOne c.args.cards.now 85 user_form x) (λ (a : Attachment). a.user) (λ a h. h.user)
    c.from_residual-in_err-user.result _ c.from_residual-in_err-user.ensures.1 c.in_err-user.ensures
