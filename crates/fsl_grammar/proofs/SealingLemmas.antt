-- What lines are once they are finished.
use Rattle.std.proofs.Common.{◌≡◌, ℕ, List, [], ◌++◌, ap, ◌∙◌}
use Rattle.fsl_card.specs.declared.types.Card.{Card}
use Rattle.fsl_card.specs.Cards.{text_of}
use Rattle.fsl_card.specs.Writing.{finished, sealed_text}
use Rattle.fsl_card.proofs.SealLemmas.{is_finished}

pub sealed : (empty lines text : List ℕ) (cards : List Card) → empty ≡ [] → lines ≡ empty ++ text_of cards → text ≡ finished lines → text ≡ sealed_text cards
sealed empty lines text cards none written done =
    done ∙ ap finished (written ∙ ap (λ (before : List ℕ). before ++ text_of cards) none) ∙ is_finished cards
