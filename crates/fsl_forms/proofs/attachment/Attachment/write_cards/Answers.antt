use Rattle.std.proofs.Common.{◌∙◌, ◌∷◌, []}
use Rattle.std.proofs.lemmas.Result.{on_ok_weaker}
use Rattle.fsl_text.specs.Escapes.{escape}
use Rattle.fsl_grammar.specs.Writing.{card, card_if}
use Rattle.fsl_forms.specs.Writing.{attached_card}
use Rattle.fsl_date.specs.Moment.{moment_text}
use Rattle.fsl_forms.proofs.SpellingLemmas.{attachment_spelled}
use Rattle.fsl_forms.proofs.attachment.Attachment.write_cards.Goals as goal

pub returns : goal.returns
returns c =
    let v = c.args.self.now in
    on_ok_weaker c.write_optional_text_card-3.result (λ written. (
      c.text.ensures.moment,
      written ∙ rw (c.in_ok-write_optional_text_card-2.ensures.ok, c.in_ok-write_card.ensures.ok, c.text.ensures.value, c.in_ok-write_optional_text_card.ensures.ok, c.in_ok-write_attached.ensures)
          (attachment_spelled _ (card_if 67 escape v.comment) (card_if 78 escape v.mime) (card_if 85 escape v.user) (attached_card v) (card 68 (moment_text v.date ∷ []))),
    )) c.write_optional_text_card-3.ensures.ok
