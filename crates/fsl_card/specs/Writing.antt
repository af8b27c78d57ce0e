-- How cards become a text.
use Rattle.std.specs.Prelude.{◌≡◌, ℕ, ◌==◌, Bool, not, List, [], ◌∷◌, ◌++◌, codes, IsTrue}
use Rattle.std.specs.List.{list_all, AllByRecursion}
use Rattle.md5.specs.Md5.{md5}
use Rattle.hex.specs.Hex.{encode_lower}
use Rattle.fsl_card.specs.declared.types.Card.{Card}
use Rattle.fsl_card.specs.Cards.{IsCard, IsCards, in_order, text_of, seal}

-- lines with the Z card behind them, as `finish` leaves them
abbrev pub finished : List ℕ → List ℕ
finished lines = lines ++ codes "Z " ++ encode_lower (md5 lines) ++ 10 ∷ []

-- the text of cards with the Z card behind them
abbrev pub sealed_text : List Card → List ℕ
sealed_text front = text_of (front ++ seal front ∷ [])

-- ---- laws

-- what is finished is sealed
abbrev pub IsFinished : Type 0
IsFinished = (front : List Card) → finished (text_of front) ≡ sealed_text front

-- a card that may stand before the Z card
abbrev pub is_before_seal : Card → Bool
is_before_seal card = not (card.letter == 90)

-- the text of cards in order, with the Z card behind them, is these cards
abbrev pub IsReadBack : Type 0
IsReadBack = (front : List Card) → AllByRecursion IsCard front → IsTrue (in_order front) → IsTrue (list_all is_before_seal front)
    → IsCards (sealed_text front) (front ++ seal front ∷ [])
