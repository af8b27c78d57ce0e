-- How far a message is read, and its cards so far.
use Rattle.std.specs.Prelude.{◌≡◌, ℕ, ◌+◌, ◌≤◌, List, ◌++◌, length, drop, map}
use Rattle.fsl_wire.specs.declared.WireCard.{WireCard}
use Rattle.fsl_wire.specs.declared.WireFault.{WireFault}
use Rattle.fsl_wire.specs.Messages.{IsNumberedMessage, IsFirstFault}
use Rattle.fsl_wire.specs.Fronts.{IsMessageFrom, IsFaultFrom}

-- A message was read up to a place: the next line has number n, and these are its cards so far. What the rest is
-- as a message, or what is wrong with it, the whole is too.
pub record IsReadTo (bytes : List ℕ) (n at : ℕ) (done : List (ℕ × WireCard)) : Type 0 where
  pub message : (cards : List (ℕ × WireCard)) → IsMessageFrom n (drop at bytes) cards → IsNumberedMessage bytes (done ++ cards)
  pub fault : (fault : WireFault) → IsFaultFrom n (drop at bytes) fault → IsFirstFault bytes fault
  pub within : at ≤ length bytes
  pub room : n ≤ at + 1

-- the cards of a message that was read up to a place
pub record AreCardsTo (bytes : List ℕ) (n at : ℕ) (cards : List WireCard) : Type 0 where
  pub done : List (ℕ × WireCard)
  pub read : IsReadTo bytes n at done
  pub same : cards ≡ map (λ l. l.1) done
