-- How the cards of a value are spelled, one after another.
use Rattle.std.proofs.Common.{◌≡◌, ℕ, List, [], ◌∷◌, ◌++◌, append_assoc}
use Rattle.std.specs.List.{flat_map}
use Rattle.std.proofs.lemmas.List.{append-nil}
use Rattle.std.proofs.lemmas.Grind.{flat_map-append}
use Rattle.std.proofs.lemmas.List.Concat.{flat_map-cons}
use Rattle.fsl_card.specs.declared.types.Card.{Card}
use Rattle.fsl_card.specs.Cards.{card_text, text_of}

module _ {X : Type 0} (text : X → List ℕ) where
  abbrev all : List X → List ℕ
  all xs = flat_map text xs

  control_by : (old : List ℕ) (t : List X) (d u : X) → ((old ++ text d) ++ all t) ++ text u ≡ old ++ all (d ∷ t ++ u ∷ [])
  control_by old t d u = simp (flat_map-append, flat_map-cons) (simp (append_assoc, append-nil))

  wiki_by : (old : List ℕ) (c n p : List X) (d l u w : X) → ((((((old ++ all c) ++ text d) ++ text l) ++ all n) ++ all p) ++ text u) ++ text w ≡ old ++ all (c ++ d ∷ l ∷ n ++ p ++ u ∷ w ∷ [])
  wiki_by old c n p d l u w = simp (flat_map-append, flat_map-cons) (simp (append_assoc, append-nil))

  ticket_by : (old : List ℕ) (j : List X) (d k u : X) → (((old ++ text d) ++ all j) ++ text k) ++ text u ≡ old ++ all (d ∷ j ++ k ∷ u ∷ [])
  ticket_by old j d k u = simp (flat_map-append, flat_map-cons) (simp (append_assoc, append-nil))

  attachment_by : (old : List ℕ) (c n u : List X) (a d : X) → ((((old ++ text a) ++ all c) ++ text d) ++ all n) ++ all u ≡ old ++ all (a ∷ c ++ d ∷ n ++ u)
  attachment_by old c n u a d = simp (flat_map-append, flat_map-cons) (simp append_assoc)

  technote_by : (old : List ℕ) (c n p t u : List X) (d e w : X)
      → (((((((old ++ all c) ++ text d) ++ text e) ++ all n) ++ all p) ++ all t) ++ all u) ++ text w ≡ old ++ all (c ++ d ∷ e ∷ n ++ p ++ t ++ u ++ w ∷ [])
  technote_by old c n p t u d e w = simp (flat_map-append, flat_map-cons) (simp (append_assoc, append-nil))

  forum_by : (old : List ℕ) (g h i n p : List X) (d u w : X)
      → (((((((old ++ text d) ++ all g) ++ all h) ++ all i) ++ all n) ++ all p) ++ text u) ++ text w ≡ old ++ all (d ∷ g ++ h ++ i ++ n ++ p ++ u ∷ w ∷ [])
  forum_by old g h i n p d u w = simp (flat_map-append, flat_map-cons) (simp (append_assoc, append-nil))

pub control_spelled : (old : List ℕ) (t : List Card) (d u : Card) → ((old ++ card_text d) ++ text_of t) ++ card_text u ≡ old ++ text_of (d ∷ t ++ u ∷ [])
control_spelled = control_by card_text

pub wiki_spelled : (old : List ℕ) (c n p : List Card) (d l u w : Card)
    → ((((((old ++ text_of c) ++ card_text d) ++ card_text l) ++ text_of n) ++ text_of p) ++ card_text u) ++ card_text w ≡ old ++ text_of (c ++ d ∷ l ∷ n ++ p ++ u ∷ w ∷ [])
wiki_spelled = wiki_by card_text

pub ticket_spelled : (old : List ℕ) (j : List Card) (d k u : Card) → (((old ++ card_text d) ++ text_of j) ++ card_text k) ++ card_text u ≡ old ++ text_of (d ∷ j ++ k ∷ u ∷ [])
ticket_spelled = ticket_by card_text

pub attachment_spelled : (old : List ℕ) (c n u : List Card) (a d : Card)
    → ((((old ++ card_text a) ++ text_of c) ++ card_text d) ++ text_of n) ++ text_of u ≡ old ++ text_of (a ∷ c ++ d ∷ n ++ u)
attachment_spelled = attachment_by card_text

pub technote_spelled : (old : List ℕ) (c n p t u : List Card) (d e w : Card)
    → (((((((old ++ text_of c) ++ card_text d) ++ card_text e) ++ text_of n) ++ text_of p) ++ text_of t) ++ text_of u) ++ card_text w
    ≡ old ++ text_of (c ++ d ∷ e ∷ n ++ p ++ t ++ u ++ w ∷ [])
technote_spelled = technote_by card_text

pub forum_spelled : (old : List ℕ) (g h i n p : List Card) (d u w : Card)
    → (((((((old ++ card_text d) ++ text_of g) ++ text_of h) ++ text_of i) ++ text_of n) ++ text_of p) ++ card_text u) ++ card_text w
    ≡ old ++ text_of (d ∷ g ++ h ++ i ++ n ++ p ++ u ∷ w ∷ [])
forum_spelled = forum_by card_text
