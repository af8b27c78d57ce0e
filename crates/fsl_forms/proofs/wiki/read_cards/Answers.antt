use Rattle.fsl_grammar.specs.Forms.{HasOne, HasAtMostOne, HasParents, HasBody, date_form, text_form, user_form}
use Rattle.fsl_forms.specs.declared.wiki.Wiki.{Wiki}
use Rattle.fsl_forms.specs.Kinds.{IsWiki}
use Rattle.fsl_forms.proofs.PartLemmas.{part_unread}
use Rattle.fsl_forms.proofs.wiki.read_cards.Goals as goal

pub returns-in_err-comment : goal.returns-in_err-comment
returns-in_err-comment c =
    part_unread (IsWiki c.args.cards.now) (λ x. HasAtMostOne c.args.cards.now 67 text_form x) (λ (w : Wiki). w.comment) (λ w h. h.comment)
    c.from_residual-in_err-comment.result _ c.from_residual-in_err-comment.ensures.1 c.in_err-comment.ensures

pub returns-in_err-date : goal.returns-in_err-date
returns-in_err-date c =
    part_unread (IsWiki c.args.cards.now) (λ x. HasOne c.args.cards.now 68 date_form x) (λ (w : Wiki). w.date) (λ w h. h.date)
    c.from_residual.result _ c.from_residual.ensures.1 c.in_err-date.ensures

pub returns-in_err-title : goal.returns-in_err-title
returns-in_err-title c =
    part_unread (IsWiki c.args.cards.now) (λ x. HasOne c.args.cards.now 76 text_form x) (λ (w : Wiki). w.title) (λ w h. h.title)
    c.from_residual-in_err-title.result _ c.from_residual-in_err-title.ensures.1 c.in_err-title.ensures

pub returns-in_err-mime : goal.returns-in_err-mime
returns-in_err-mime c =
    part_unread (IsWiki c.args.cards.now) (λ x. HasAtMostOne c.args.cards.now 78 text_form x) (λ (w : Wiki). w.mime) (λ w h. h.mime)
    c.from_residual-in_err-mime.result _ c.from_residual-in_err-mime.ensures.1 c.in_err-mime.ensures

pub returns-in_err-parents : goal.returns-in_err-parents
returns-in_err-parents c =
    part_unread (IsWiki c.args.cards.now) (HasParents c.args.cards.now) (λ (w : Wiki). w.parents) (λ w h. h.parents)
    c.from_residual-in_err-parents.result _ c.from_residual-in_err-parents.ensures.1 c.in_err-parents.ensures

pub returns-in_err-user : goal.returns-in_err-user
returns-in_err-user c =
    part_unread (IsWiki c.args.cards.now) (λ x. HasOne c.args.cards.now 85 user_form x) (λ (w : Wiki). w.user) (λ w h. h.user)
    c.from_residual-in_err-user.result _ c.from_residual-in_err-user.ensures.1 c.in_err-user.ensures

pub returns-in_err-text : goal.returns-in_err-text
returns-in_err-text c =
    part_unread (IsWiki c.args.cards.now) (HasBody c.args.cards.now) (λ (w : Wiki). w.text) (λ w h. h.text)
    c.from_residual-in_err-text.result _ c.from_residual-in_err-text.ensures.1 c.in_err-text.ensures
