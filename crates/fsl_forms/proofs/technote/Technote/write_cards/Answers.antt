use Rattle.std.proofs.Common.{◌∙◌}
use Rattle.std.proofs.lemmas.Result.{on_ok_weaker}
use Rattle.fsl_forms.proofs.SpellingLemmas.{technote_spelled}
use Rattle.fsl_forms.proofs.technote.Technote.write_cards.Goals as goal

pub returns : goal.returns
returns c =
    on_ok_weaker c.write_body.result (λ written. (
      c.text.ensures.moment,
      c.text-2.ensures.moment,
      written ∙ rw (c.bytes.ensures, c.in_ok-write_optional_text_card-3.ensures.ok, c.in_ok-write_tags.ensures.ok, c.items-2.ensures, c.in_ok-write_parents.ensures.ok, c.items.ensures, c.in_ok-write_optional_text_card-2.ensures.ok, c.in_ok-write_event.ensures, c.text-2.ensures.value, c.in_ok-write_card.ensures.ok, c.text.ensures.value, c.in_ok-write_optional_text_card.ensures.ok) (technote_spelled _ _ _ _ _ _ _ _ _),
    )) c.write_body.ensures.ok
