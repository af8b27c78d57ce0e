use Rattle.std.proofs.Common.{◌∙◌, ◌∷◌, [], map}
use Rattle.std.proofs.lemmas.Result.{on_ok_weaker}
use Rattle.fsl_text.specs.Escapes.{escape}
use Rattle.fsl_grammar.specs.Writing.{card, tag_card}
use Rattle.fsl_date.specs.Moment.{moment_text}
use Rattle.fsl_forms.proofs.SpellingLemmas.{control_spelled}
use Rattle.fsl_forms.proofs.control.Control.write_cards.Goals as goal

pub returns : goal.returns
returns c =
    let v = c.args.self.now in
    on_ok_weaker c.write_text_card.result (λ written. (
      c.text.ensures.moment,
      written ∙ rw (c.bytes.ensures, c.in_ok-write_tags.ensures.ok, c.items.ensures, c.in_ok-write_card.ensures.ok, c.text.ensures.value)
          (control_spelled _ (map tag_card v.tags) (card 68 (moment_text v.date ∷ [])) (card 85 (escape v.user ∷ []))),
    )) c.write_text_card.ensures.ok
