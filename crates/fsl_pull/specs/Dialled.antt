-- The connections of a dial as the rounds of a sync.
use Rattle.std.specs.Prelude.{◌≡◌, ℕ, List, [], ◌∷◌, ◌++◌, Option, Some, None, ⊤}
use Rattle.std.specs.List.{AllZip}
use Rattle.fsl_outside.specs.Connections.{Connection}
use Rattle.fsl_http.specs.Responses.{Exchanged, IsExchanged}
use Rattle.fsl_pull.specs.Rounds.{Round}

-- the rounds over a network: the body of each request, and what came
abbrev pub Rounds : Type 0
Rounds = List (Round (List ℕ) Exchanged)

-- a connection that is a round of the sync
abbrev pub IsMet : Connection → Round (List ℕ) Exchanged → Type 0
IsMet c r = IsExchanged c r.request r.reply

-- at most one last connection broke off
abbrev pub HasBroken : List Connection → Type 0
HasBroken [] = ⊤
HasBroken (c ∷ []) = ⊤
HasBroken (c ∷ d ∷ more) = ⊥

-- what is said of a connection that broke off in the midst of an exchange with this request
abbrev pub Breaks : Type 1
Breaks = Connection → List ℕ → Type 0

-- a connection that broke off took a request that was due, or a front of it
abbrev pub HasSent : Breaks → List Connection → (List ℕ → Type 0) → Type 0
HasSent BreaksOff [] IsDue = ⊤
HasSent BreaksOff (c ∷ more) IsDue = (body : List ℕ) × IsDue body × BreaksOff c body

-- the connections that were added are the rounds, one each, and then perhaps one that broke off
abbrev pub AreMet : List Connection → Rounds → List Connection → Type 0
AreMet added rounds broken = (met : List Connection) × (added ≡ met ++ broken) × AllZip IsMet met rounds × HasBroken broken

-- the dial's list grew so, where it is told
abbrev pub Grows : Option (List Connection) → Option (List Connection) → Rounds → List Connection → Type 0
Grows (Some before) (Some after) rounds broken = (added : List Connection) × (after ≡ before ++ added) × AreMet added rounds broken
Grows None None rounds broken = broken ≡ []
Grows _ _ rounds broken = ⊥

-- some rounds, and perhaps a connection that broke off, by which the list grew and of which this holds
abbrev pub HasRounds : Option (List Connection) → Option (List Connection) → (Rounds → List Connection → Type 0) → Type 0
HasRounds before after P = (rounds : Rounds) × (broken : List Connection) × Grows before after rounds broken × P rounds broken
