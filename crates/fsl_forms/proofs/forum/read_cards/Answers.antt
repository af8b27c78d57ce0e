use Rattle.std.proofs.Common.{sym}
use Rattle.fsl_grammar.specs.Forms.{HasOne, HasAtMostOne, HasBody, date_form, hash_form, text_form, user_form}
use Rattle.fsl_forms.specs.declared.forum.Forum.{Forum}
use Rattle.fsl_forms.specs.Parts.{HasPlace}
use Rattle.fsl_forms.specs.Kinds.{IsForum}
use Rattle.fsl_forms.proofs.PartLemmas.{part_unread}
use Rattle.fsl_forms.proofs.forum.read_cards.Goals as goal

pub returns-in_err-date : goal.returns-in_err-date
returns-in_err-date c =
    part_unread (IsForum c.args.cards.now) (λ x. HasOne c.args.cards.now 68 date_form x) (λ (f : Forum). f.date) (λ f h. h.date)
    c.from_residual.result _ c.from_residual.ensures.1 c.in_err-date.ensures

pub returns-in_err-place : goal.returns-in_err-place
returns-in_err-place c =
    part_unread (IsForum c.args.cards.now) (HasPlace c.args.cards.now) (λ (f : Forum). record { root = f.root; title = f.title; reply = f.reply }) (λ f h. record { root = h.root; title = h.title; reply = h.reply; together = h.place })
    c.from_residual-in_err-place.result _ c.from_residual-in_err-place.ensures.1 c.in_err-place.ensures

pub returns-in_err-mime : goal.returns-in_err-mime
returns-in_err-mime c =
    part_unread (IsForum c.args.cards.now) (λ x. HasAtMostOne c.args.cards.now 78 text_form x) (λ (f : Forum). f.mime) (λ f h. h.mime)
    c.from_residual-in_err-mime.result _ c.from_residual-in_err-mime.ensures.1 c.in_err-mime.ensures

pub returns-in_err-prior : goal.returns-in_err-prior
returns-in_err-prior c =
    part_unread (IsForum c.args.cards.now) (λ x. HasAtMostOne c.args.cards.now 80 hash_form x) (λ (f : Forum). f.prior) (λ f h. h.prior)
    c.from_residual-in_err-prior.result _ c.from_residual-in_err-prior.ensures.1 c.in_err-prior.ensures

pub returns-in_err-user : goal.returns-in_err-user
returns-in_err-user c =
    part_unread (IsForum c.args.cards.now) (λ x. HasOne c.args.cards.now 85 user_form x) (λ (f : Forum). f.user) (λ f h. h.user)
    c.from_residual-in_err-user.result _ c.from_residual-in_err-user.ensures.1 c.in_err-user.ensures

pub returns-in_err-text : goal.returns-in_err-text
returns-in_err-text c =
    part_unread (IsForum c.args.cards.now) (HasBody c.args.cards.now) (λ (f : Forum). f.text) (λ f h. h.text)
    c.from_residual-in_err-text.result _ c.from_residual-in_err-text.ensures.1 c.in_err-text.ensures

pub returns : goal.returns
returns c = record {
  letters = sym c.if-not-has_forum_letters.ensures;
  date = c.in_ok-date.ensures;
  root = c.in_ok-place.ensures.root;
  title = c.in_ok-place.ensures.title;
  reply = c.in_ok-place.ensures.reply;
  mime = c.in_ok-mime.ensures;
  prior = c.in_ok-prior.ensures;
  user = c.in_ok-user.ensures;
  text = c.in_ok-text.ensures;
  place = c.in_ok-place.ensures.together;
}
