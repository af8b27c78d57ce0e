use Rattle.std.proofs.Common.{◌∙◌, ◌∷◌, []}
use Rattle.std.proofs.lemmas.Result.{on_ok_weaker}
use Rattle.fsl_text.specs.Escapes.{escape}
use Rattle.fsl_name.specs.Name.{name_text}
use Rattle.fsl_grammar.specs.Writing.{body_card, card, card_if}
use Rattle.fsl_date.specs.Moment.{moment_text}
use Rattle.fsl_forms.proofs.SpellingLemmas.{forum_spelled}
use Rattle.fsl_forms.proofs.forum.Forum.write_cards.Goals as goal

pub returns : goal.returns
returns c =
    let v = c.args.self.now in
    on_ok_weaker c.write_body.result (λ written. (
      c.text.ensures.moment,
      written ∙ rw (
        c.bytes-2.ensures,
        c.in_ok-write_text_card.ensures.ok,
        c.bytes.ensures,
        c.in_ok-write_optional_name_card-3.ensures.ok,
        c.in_ok-write_optional_text_card-2.ensures.ok,
        c.in_ok-write_optional_name_card-2.ensures.ok,
        c.in_ok-write_optional_text_card.ensures.ok,
        c.in_ok-write_optional_name_card.ensures.ok,
        c.in_ok-write_card.ensures.ok,
        c.text.ensures.value,
      )
          (forum_spelled _ (card_if 71 name_text v.root) (card_if 72 escape v.title) (card_if 73 name_text v.reply) (card_if 78 escape v.mime) (card_if 80 name_text v.prior)
          (card 68 (moment_text v.date ∷ [])) (card 85 (escape v.user ∷ [])) (body_card v.text)),
    )) c.write_body.ensures.ok
