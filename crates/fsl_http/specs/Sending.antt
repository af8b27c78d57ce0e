-- What a connection took of a text.
use Rattle.std.specs.Prelude.{◌≡◌, ℕ, List, ◌++◌, Option, map}
use Rattle.std.specs.Borrow.{Bor}
use Rattle.std.specs.List.{concat}
use Rattle.fsl_outside.specs.Memory.{next}
use Rattle.fsl_outside.specs.Connections.{Connection, Between, IsSent}

-- the connection took a front of the text, one call failed, and nothing else changed
pub record IsCut (old new : Connection) (text : List ℕ) : Type 0 where
  pub front : List ℕ
  pub rest : List ℕ
  pub whole : text ≡ front ++ rest
  pub cut : new ≡ record old { taken = old.taken ++ front; failed = next old.failed }

abbrev pub Sends : Option Connection → Option Connection → List ℕ → Type 0
Sends old new text = Between old new (λ c d. IsSent c d text)

abbrev pub SendsFront : Option Connection → Option Connection → List ℕ → Type 0
SendsFront old new text = Between old new (λ c d. IsCut c d text)

-- the text is what was sent, and the rest
pub record IsSentTo (old new : Option Connection) (text rest : List ℕ) : Type 0 where
  pub front : List ℕ
  pub whole : text ≡ front ++ rest
  pub sent : Sends old new front

-- pieces, one after another
abbrev pub joined : List (Bor (List ℕ)) → List ℕ
joined pieces = concat (map (λ piece. piece.now) pieces)
