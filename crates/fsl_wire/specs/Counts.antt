-- How many cards stand before a place of a message.
use Rattle.std.specs.Prelude.{◌≡◌, ℕ, ◌+◌, Bool, true, false, List, length}
use Rattle.fsl_wire.specs.declared.WireCard.{WireCard}
use Rattle.fsl_wire.specs.Lines.{Line, blank, bad}
use Rattle.fsl_wire.specs.Reading.{IsReadTo}

-- whether a line that reads has a card
abbrev pub has_card : Line → Bool
has_card blank = false
has_card (bad fault) = false
has_card line = true

-- a message was read up to a place, and the cards that it has had leave so many before the one at a place of its cards
pub record IsCountedTo (bytes : List ℕ) (n at left place : ℕ) : Type 0 where
  pub done : List (ℕ × WireCard)
  pub read : IsReadTo bytes n at done
  pub count : length done + left ≡ place
