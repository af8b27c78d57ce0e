-- What clauses see of a file that another process may write to.
use Rattle.std.specs.Prelude.{◌≡◌, ◌⊎◌, ◌≤◌, ◌<◌, ◌+◌, ℕ, Option, None, Some, List, Result, OnOk, OnErr, length, slice_index}
use Rattle.fsl_order.specs.Causes.{Rose}

-- what it holds at each moment, where that is told, the moment that it is now, and how often a call has failed, up to the last value of u64
pub record SharedState : Type 0 where
  pub held : Option (ℕ → List ℕ)
  pub moment : ℕ
  pub faults : ℕ

-- a file that tells nothing of contents
abbrev pub unshown : ℕ → SharedState
unshown faults = record { held = None; moment = 0; faults = faults }

-- Of what is told this holds.
abbrev pub ToldOf : SharedState → ((ℕ → List ℕ) → Type 0) → Type 0
ToldOf file P = (held : ℕ → List ℕ) → file.held ≡ Some held → P held

-- A call that only reads: time goes on, and what the file holds at each moment is for others to say.
pub record Sees (old new : SharedState) : Type 0 where
  pub same : new.held ≡ old.held
  pub later : old.moment ≤ new.moment

-- a moment within a call
abbrev pub Within : SharedState → SharedState → ℕ → Type 0
Within old new m = (old.moment ≤ m) × (m ≤ new.moment)

-- the length at a moment within the call
abbrev pub IsLengthOf : SharedState → SharedState → (ℕ → List ℕ) → ℕ → Type 0
IsLengthOf old new held len = (m : ℕ) × Within old new m × (len ≡ length (held m))

-- each of these bytes, which were read from a place on, is the file's at a moment within the call, at one of its own
abbrev pub AreOf : SharedState → SharedState → (ℕ → List ℕ) → ℕ → List ℕ → Type 0
AreOf old new held at bytes = (k : ℕ) → k < length bytes → (m : ℕ) × Within old new m × (at + k < length (held m)) × (slice_index bytes k ≡ slice_index (held m) (at + k))

-- at a moment within the call the file that is told ended before this place
pub record IsShort (old new : SharedState) (end : ℕ) : Type 0 where
  pub held : ℕ → List ℕ
  pub told : old.held ≡ Some held
  pub moment : ℕ
  pub within : Within old new moment
  pub short : length (held moment) < end

-- a read up to this place that failed: the count rose, or the file ended before it at a moment within the call
abbrev pub ReadFailed : SharedState → SharedState → ℕ → Type 0
ReadFailed old new end = Rose old.faults new.faults ⊎ IsShort old new end

-- A read up to this place: a failure raises the count, or the file ended before it at a moment within the call.
pub record ReadCause {T E : Type 0} (old new : SharedState) (end : ℕ) (result : Result T E) : Type 0 where
  pub later : old.faults ≤ new.faults
  pub failed : OnErr result (ReadFailed old new end)
  pub same : OnOk result (new.faults ≡ old.faults)
