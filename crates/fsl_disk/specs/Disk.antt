-- What clauses see of a disk, what its calls do to the contents, and what a crash may leave of them.
use Rattle.std.specs.Prelude.{◌≡◌, ◌⊎◌, ℕ, ◌+◌, ◌≤◌, min, max, Bool, IsTrue, Option, Some, is_some, IsSome, List, ◌++◌, length, take, drop}

pub record DiskState : Type 1 where
  -- the bytes that a read gives, where the disk tells them
  pub contents : Option (List ℕ)
  -- whether it meets the disk model
  pub is_model : Bool
  -- what a crash may leave now
  pub images : List ℕ → Type 0
  -- a number that doesn't fall
  pub moment : ℕ
  -- what a crash at some moment from that one on might have left, during a call or between two
  pub since : ℕ → List ℕ → Type 0
  -- how often a call has failed, up to the last value of u64
  pub faults : ℕ

-- Of contents that are told this holds.
abbrev pub Told : DiskState → (List ℕ → Type 0) → Type 0
Told disk P = (held : List ℕ) → disk.contents ≡ Some held → P held

-- The disk tells its contents, and it meets the disk model.
pub record IsModelled (disk : DiskState) : Type 0 where
  pub tells : IsSome disk.contents
  pub model : IsTrue disk.is_model

-- old with these bytes from this place on
abbrev pub written : ℕ → List ℕ → List ℕ → List ℕ
written at bytes old = take at old ++ bytes ++ drop (at + length bytes) old

-- A write of n bytes, stopped at any moment: any bytes in its range, a length between, the rest as before.
pub record Torn (at n : ℕ) (old new : List ℕ) : Type 0 where
  pub before : take at new ≡ take at old
  pub after : drop (at + n) new ≡ drop (at + n) old
  pub no_shorter : length old ≤ length new
  pub no_longer : length new ≤ max (length old) (at + n)

-- A cut to a length, stopped at any moment: any bytes in its range, a length between.
pub record CutShort (len : ℕ) (old new : List ℕ) : Type 0 where
  pub front : take len new ≡ take len old
  pub no_shorter : min len (length old) ≤ length new
  pub no_longer : length new ≤ length old

-- A call that writes nothing.
abbrev pub Same : List ℕ → List ℕ → Type 0
Same old new = new ≡ old

-- One call of a disk that meets the disk model. Each image after it is an image from before it after a step, which may
-- have stopped at any moment within the call. A crash since t might have left what it might have left before the call, or
-- what it may leave now: an image from before the call, or from any moment within it.
pub record Passes (step : List ℕ → List ℕ → Type 0) (old new : DiskState) : Type 0 where
  pub follows : (c : List ℕ) → new.images c → (d : List ℕ) × old.images d × step d c
  pub later : old.moment ≤ new.moment
  pub nothing_else : (t : ℕ) (c : List ℕ) → t ≤ old.moment → new.since t c → old.since t c ⊎ new.images c
  pub keeps : (t : ℕ) (c : List ℕ) → t ≤ old.moment → old.since t c → new.since t c

-- What no call changes: whether the disk tells its contents, and whether it meets the disk model.
pub record Keeps (old new : DiskState) : Type 0 where
  pub tells : is_some new.contents ≡ is_some old.contents
  pub model : new.is_model ≡ old.is_model

-- One call of any disk.
pub record Calls (step : List ℕ → List ℕ → Type 0) (old new : DiskState) : Type 0 where
  pub keeps : Keeps old new
  pub crash : IsTrue old.is_model → Passes step old new

-- Calls that write nothing: a crash at each moment of them leaves what it might have left before.
pub record Quiet (old new : DiskState) : Type 0 where
  pub keeps : Keeps old new
  pub contents : new.contents ≡ old.contents
  pub later : IsTrue old.is_model → old.moment ≤ new.moment
  pub images : IsTrue old.is_model → (c : List ℕ) → new.images c → old.images c
  pub since : IsTrue old.is_model → (t : ℕ) (c : List ℕ) → t ≤ old.moment → new.since t c → old.since t c ⊎ old.images c

-- A crash leaves this and nothing else.
abbrev pub Only : List ℕ → (List ℕ → Type 0) → Type 0
Only held images = (c : List ℕ) → images c → c ≡ held

-- A write of these bytes from a place on was done: a read gives them there from now on.
abbrev pub IsWritten : ℕ → List ℕ → DiskState → DiskState → Type 0
IsWritten at bytes old new = Told old (λ held. new.contents ≡ Some (written at bytes held))

-- A sync was done: where the disk meets the disk model, a crash leaves what a read gave before it.
abbrev pub IsMadeStable : DiskState → DiskState → Type 0
IsMadeStable old new = IsTrue old.is_model → Told old (λ held. Only held new.images)

-- The second list begins with the first.
abbrev pub Begins : List ℕ → List ℕ → Type 0
Begins held c = take (length held) c ≡ held

-- A crash now, and at any moment since old, leaves contents that have P.
pub record LeavesOnly (old new : DiskState) (P : List ℕ → Type 0) : Type 0 where
  pub later : old.moment ≤ new.moment
  pub now : (c : List ℕ) → new.images c → P c
  pub each : (c : List ℕ) → new.since old.moment c → P c
  -- for a run that began earlier
  pub before : (t : ℕ) (c : List ℕ) → t ≤ old.moment → new.since t c → old.since t c ⊎ P c
