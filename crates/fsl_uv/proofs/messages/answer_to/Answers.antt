use Rattle.std.proofs.Common.{◌≡◌, ℕ, List, ap, ◌∙◌}
use Rattle.std.specs.Prelude.{flat_map}
use Rattle.fsl_uv.specs.Cards.{message_text}
use Rattle.fsl_uv.specs.Reading.{answer_for}
use Rattle.fsl_uv.specs.Syncing.{answered}
use Rattle.fsl_uv.proofs.OfferLemmas.{if-ok-then, all-answered}
use Rattle.fsl_uv.proofs.messages.answer_to.Goals as goal

pub returns : goal.returns
returns c =
    let m = c.args.held.now in
    let cards = c.args.cards.now in
    let os = c.in_ok-offers.offers.entries in
    if-ok-then c.answers_to-text.result (λ (t : List ℕ). t ≡ message_text (flat_map (answer_for m) os)) (λ (t : List ℕ). t ≡ message_text (answered m cards))
    (λ t is. is ∙ ap message_text (all-answered m os cards c.in_ok-offers.ensures)) c.answers_to-text.ensures
