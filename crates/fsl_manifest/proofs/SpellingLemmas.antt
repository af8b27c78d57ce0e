-- How the cards of a manifest are spelled, one after another.
use Rattle.std.proofs.Common.{◌≡◌, ℕ, List, [], ◌∷◌, ◌++◌, append_assoc}
use Rattle.std.specs.List.{flat_map}
use Rattle.std.proofs.lemmas.List.{append-nil}
use Rattle.std.proofs.lemmas.Grind.{flat_map-append}
use Rattle.std.proofs.lemmas.List.Concat.{flat_map-cons}
use Rattle.fsl_card.specs.declared.types.Card.{Card}
use Rattle.fsl_card.specs.Cards.{card_text, text_of}

spelled_by : {X : Type 0} (text : X → List ℕ) (old : List ℕ) (a f n p q r t : List X) (c d u : X)
    → (((((((((old ++ flat_map text a) ++ text c) ++ text d) ++ flat_map text f) ++ flat_map text n) ++ flat_map text p) ++ flat_map text q) ++ flat_map text r) ++ flat_map text t) ++ text u
    ≡ old ++ flat_map text (a ++ c ∷ d ∷ f ++ n ++ p ++ q ++ r ++ t ++ u ∷ [])
spelled_by text old a f n p q r t c d u = simp (flat_map-append, flat_map-cons) (simp (append_assoc, append-nil))

pub spelled : (old : List ℕ) (a f n p q r t : List Card) (c d u : Card)
    → (((((((((old ++ text_of a) ++ card_text c) ++ card_text d) ++ text_of f) ++ text_of n) ++ text_of p) ++ text_of q) ++ text_of r) ++ text_of t) ++ card_text u
    ≡ old ++ text_of (a ++ c ∷ d ∷ f ++ n ++ p ++ q ++ r ++ t ++ u ∷ [])
spelled = spelled_by card_text
