use Rattle.std.proofs.Common.{◌∙◌}
use Rattle.std.proofs.lemmas.Result.{on_ok_weaker}
use Rattle.fsl_manifest.proofs.SpellingLemmas.{spelled}
use Rattle.fsl_manifest.proofs.Manifest.write_cards.Goals as goal

pub returns : goal.returns
returns c =
    on_ok_weaker c.write_text_card-2.result (λ written. (
      c.text.ensures.moment,
      written ∙ rw (
        c.bytes-2.ensures,
        c.in_ok-write_tags.ensures.ok,
        c.items-4.ensures,
        c.in_ok-write_checksum.ensures,
        c.in_ok-write_picks.ensures,
        c.items-3.ensures,
        c.in_ok-write_parents.ensures.ok,
        c.items-2.ensures,
        c.in_ok-write_optional_text_card.ensures.ok,
        c.in_ok-write_files.ensures,
        c.items.ensures,
        c.in_ok-write_card.ensures.ok,
        c.text.ensures.value,
        c.in_ok-write_text_card.ensures.ok,
        c.bytes.ensures,
        c.in_ok-write_optional_name_card.ensures.ok,
      ) (spelled _ _ _ _ _ _ _ _ _ _ _),
    )) c.write_text_card-2.ensures.ok
