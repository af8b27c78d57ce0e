-- What contracts see of the connections of a dial or a door over memory.
use Rattle.std.specs.Prelude.{◌≡◌, ℕ, ◌<◌, ◌≤◌, List, [], ◌∷◌, ◌++◌, length, take, get_or, Option, Some, None, Result, MatchOption, MatchResult}
use Rattle.std.specs.Borrow.{Bor}
use Rattle.fsl_outside.specs.Memory.{next}
use Rattle.fsl_outside.specs.Connections.{Connection, Between, IsRead, fresh}
use Rattle.fsl_outside.specs.declared.outside.Failed.{Failed}

-- the earlier connections and the present one, the numbers of the calls that are to fail, the calls so far, the failures
pub record Lines : Type 0 where
  pub earlier : List Connection
  pub present : Option Connection
  pub fails : List ℕ
  pub calls : ℕ
  pub faults : ℕ

abbrev pub none_yet : List ℕ → Lines
none_yet fails = record { earlier = []; present = None; fails = fails; calls = 0; faults = 0 }

-- all of them, the present one last
abbrev pub all_of : List Connection → Option Connection → List Connection
all_of earlier None = earlier
all_of earlier (Some present) = earlier ++ present ∷ []

-- how many there are
abbrev pub line_count : Lines → ℕ
line_count lines = length (all_of lines.earlier lines.present)

-- one more call
abbrev pub called : Lines → Lines
called lines = record lines { calls = next lines.calls }

-- one more call, which failed and left the connections
abbrev pub refused : Lines → Lines
refused lines = record lines { calls = next lines.calls; faults = next lines.faults }

-- a connection that gives those bytes is the present one, behind those that were there
abbrev pub begin : Lines → List ℕ → Lines
begin lines bytes = record lines { earlier = all_of lines.earlier lines.present; present = Some (fresh bytes) }

abbrev pub sent_on : Connection → List ℕ → Connection
sent_on c bytes = record c { taken = c.taken ++ bytes }

-- some bytes moved on the present connection
abbrev pub MovesOn : Option Connection → Option Connection → (Connection → Connection → Type 0) → Type 0
MovesOn (Some c) (Some d) P = P c d
MovesOn _ _ P = ⊥

abbrev pub LinesRead : Option Connection → Option Connection → Option ℕ → List ℕ → Type 0
LinesRead old new r into =
    MatchOption r ((new ≡ old) × (old ≡ None))
    (λ n. MovesOn old new (λ c d. IsRead c d (take n into) × (n ≡ 0 → 0 < length into → d.left ≡ [])))

abbrev pub LinesWrite : Option Connection → Option Connection → Option (Result (Unit {0}) Failed) → List ℕ → Type 0
LinesWrite old new r piece =
    MatchOption r ((new ≡ old) × (old ≡ None))
    (λ w. MovesOn old new (λ c d. MatchResult w (λ _. d ≡ sent_on c piece) (λ _. d ≡ c)))

-- a call on the present connection failed
pub record LinesFail (old new : Lines) : Type 0 where
  pub earlier : new.earlier ≡ old.earlier
  pub present : Between old.present new.present (λ c d. d ≡ record c { failed = next c.failed })
  pub fails : new.fails ≡ old.fails
  pub calls : new.calls ≡ old.calls
  pub faults : new.faults ≡ next old.faults

-- nothing but the present connection and the counts has changed
abbrev pub IsOneCall : Lines → Lines → Type 0
IsOneCall old new = new ≡ record old { present = new.present; calls = next old.calls; faults = new.faults }

-- what isn't there
abbrev pub none_here : Connection
none_here = record { read = []; left = []; taken = []; failed = 0 }

-- the bytes that the connection at a place took, or none where it isn't there
abbrev pub SentBy : Lines → ℕ → Option (Bor (List ℕ)) → Type 0
SentBy lines at r =
    MatchOption r (line_count lines ≤ at)
    (λ s. (at < line_count lines) × (s.now ≡ (get_or (all_of lines.earlier lines.present) at none_here).taken))
