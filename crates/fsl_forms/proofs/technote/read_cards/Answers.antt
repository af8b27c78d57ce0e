use Rattle.fsl_grammar.specs.Forms.{HasOne, HasAtMostOne, HasParents, HasBody, date_form, text_form, user_form}
use Rattle.fsl_forms.specs.declared.technote.Technote.{Technote}
use Rattle.fsl_forms.specs.Parts.{HasOwnTags}
use Rattle.fsl_forms.specs.Kinds.{IsTechnote, event_form}
use Rattle.fsl_forms.proofs.PartLemmas.{part_unread}
use Rattle.fsl_forms.proofs.technote.read_cards.Goals as goal

pub returns-in_err-comment : goal.returns-in_err-comment
returns-in_err-comment c =
    part_unread (IsTechnote c.args.cards.now) (λ x. HasAtMostOne c.args.cards.now 67 text_form x) (λ (n : Technote). n.comment) (λ n h. h.comment)
    c.from_residual-in_err-comment.result _ c.from_residual-in_err-comment.ensures.1 c.in_err-comment.ensures

pub returns-in_err-date : goal.returns-in_err-date
returns-in_err-date c =
    part_unread (IsTechnote c.args.cards.now) (λ x. HasOne c.args.cards.now 68 date_form x) (λ (n : Technote). n.date) (λ n h. h.date)
    c.from_residual.result _ c.from_residual.ensures.1 c.in_err-date.ensures

pub returns-in_err-time : goal.returns-in_err-time
returns-in_err-time c =
    part_unread (IsTechnote c.args.cards.now) (λ x. HasOne c.args.cards.now 69 event_form x) (λ (n : Technote). record { time = n.time; id = n.id }) (λ n h. h.event)
    c.from_residual-in_err-time.result _ c.from_residual-in_err-time.ensures.1 c.in_err-time.ensures

pub returns-in_err-mime : goal.returns-in_err-mime
returns-in_err-mime c =
    part_unread (IsTechnote c.args.cards.now) (λ x. HasAtMostOne c.args.cards.now 78 text_form x) (λ (n : Technote). n.mime) (λ n h. h.mime)
    c.from_residual-in_err-mime.result _ c.from_residual-in_err-mime.ensures.1 c.in_err-mime.ensures

pub returns-in_err-parents : goal.returns-in_err-parents
returns-in_err-parents c =
    part_unread (IsTechnote c.args.cards.now) (HasParents c.args.cards.now) (λ (n : Technote). n.parents) (λ n h. h.parents)
    c.from_residual-in_err-parents.result _ c.from_residual-in_err-parents.ensures.1 c.in_err-parents.ensures

pub returns-in_err-tags : goal.returns-in_err-tags
returns-in_err-tags c =
    part_unread (IsTechnote c.args.cards.now) (HasOwnTags c.args.cards.now) (λ (n : Technote). n.tags) (λ n h. record { tags = h.tags; own = h.own })
    c.from_residual-in_err-tags.result _ c.from_residual-in_err-tags.ensures.1 c.in_err-tags.ensures

pub returns-in_err-user : goal.returns-in_err-user
returns-in_err-user c =
    part_unread (IsTechnote c.args.cards.now) (λ x. HasAtMostOne c.args.cards.now 85 user_form x) (λ (n : Technote). n.user) (λ n h. h.user)
    c.from_residual-in_err-user.result _ c.from_residual-in_err-user.ensures.1 c.in_err-user.ensures

pub returns-in_err-text : goal.returns-in_err-text
returns-in_err-text c =
    part_unread (IsTechnote c.args.cards.now) (HasBody c.args.cards.now) (λ (n : Technote). n.text) (λ n h. h.text)
    c.from_residual-in_err-text.result _ c.from_residual-in_err-text.ensures.1 c.in_err-text.ensures
