-- What is read of a file that nobody changes meanwhile, whatever bytes it has.
use Rattle.std.specs.Prelude.{◌≡◌, ◌≢◌, ◌⊎◌, ℕ, ◌+◌, ◌<◌, ◌^◌, List, [], ◌∷◌, ◌++◌, length, flat_map}
use Rattle.std.specs.List.{AllByRecursion}
use Rattle.fsl_disk.specs.Front.{shown}
use Rattle.fsl_disk.specs.Shared.{SharedState, ToldOf, Within, IsLengthOf, AreOf}
use Rattle.fsl_disk.specs.declared.front.Front.{Front}
use Rattle.fsl_record.specs.declared.Record.{Record}
use Rattle.fsl_journal.specs.Commit.{eight}
use Rattle.fsl_journal.specs.File.{IsFileOf, FailsAt, open_gate}
use Rattle.fsl_journal.specs.Gates.{part_bytes}

-- the file holds the same at each moment of a call
abbrev pub IsStill : SharedState → SharedState → (ℕ → List ℕ) → Type 0
IsStill old new held = (m : ℕ) → Within old new m → held m ≡ held old.moment

-- any 15 bytes, open groups that hold these, and what follows
pub record HasParts (groups : List (List ℕ)) (behind bytes : List ℕ) : Type 0 where
  pub head : List ℕ
  pub long : length head ≡ 15
  pub layout : bytes ≡ head ++ flat_map part_bytes groups ++ behind
  pub sized : AllByRecursion (λ group. length group < 2 ^ 64) groups

-- of bytes with a closed gate behind open groups, what comes up to that gate and the gate itself
pub record IsUpToGate (bytes seen : List ℕ) : Type 0 where
  pub groups : List (List ℕ)
  pub gate : ℕ
  pub rest : List ℕ
  pub has : HasParts groups (gate ∷ rest) bytes
  pub closed : gate ≢ open_gate
  pub shown : seen ≡ has.head ++ flat_map part_bytes groups ++ gate ∷ []

-- What is seen of bytes that stay: all of them, or what comes up to their first closed gate. An opening makes of it what it makes of the bytes.
pub record IsStillFront (bytes seen : List ℕ) : Type 0 where
  pub parts : (seen ≡ bytes) ⊎ IsUpToGate bytes seen
  pub records : (records : List Record) → IsFileOf bytes records → IsFileOf seen records
  pub fails : (at : ℕ) → FailsAt bytes at → FailsAt seen at

-- what a walk over the gates answers of a file that stays in the call
abbrev pub ShowsStill : SharedState → SharedState → Front → Type 0
ShowsStill old new front = ToldOf old (λ held. IsStill old new held → IsStillFront (held old.moment) (shown front (held old.moment)))

-- a length that was known, or that of the file at a moment within the call
abbrev pub IsLengthOr : SharedState → SharedState → ℕ → ℕ → Type 0
IsLengthOr old new known len = (len ≡ known) ⊎ ToldOf old (λ held. IsLengthOf old new held len)

-- where the gate stands behind an open one, by the length of the group that was read within the call
abbrev pub IsBehind : SharedState → SharedState → ℕ → ℕ → Type 0
IsBehind old new gate place = (size : ℕ) × (place ≡ gate + 9 + size) × (size < 2 ^ 64) × ToldOf old (λ held. AreOf old new held (gate + 1) (eight size))
