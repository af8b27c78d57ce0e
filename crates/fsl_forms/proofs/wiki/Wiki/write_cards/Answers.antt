use Rattle.std.proofs.Common.{◌∙◌}
use Rattle.std.proofs.lemmas.Result.{on_ok_weaker}
use Rattle.fsl_forms.proofs.SpellingLemmas.{wiki_spelled}
use Rattle.fsl_forms.proofs.wiki.Wiki.write_cards.Goals as goal

pub returns : goal.returns
returns c =
    on_ok_weaker c.write_body.result (λ written. (
      c.text.ensures.moment,
      written ∙ rw (c.bytes-3.ensures, c.in_ok-write_text_card-2.ensures.ok, c.bytes-2.ensures, c.in_ok-write_parents.ensures.ok, c.items.ensures, c.in_ok-write_optional_text_card-2.ensures.ok, c.in_ok-write_text_card.ensures.ok, c.bytes.ensures, c.in_ok-write_card.ensures.ok, c.text.ensures.value, c.in_ok-write_optional_text_card.ensures.ok) (wiki_spelled _ _ _ _ _ _ _ _),
    )) c.write_body.ensures.ok
