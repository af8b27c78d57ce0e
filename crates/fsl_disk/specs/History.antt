-- What clauses see of the changes that a disk in memory keeps, and of the contents that a crash makes of them.
use Rattle.std.specs.Prelude.{◌≡◌, ◌≤◌, ℕ, Option, None, Some, List, [], ◌∷◌, length, take, drop, reverse, All}
use Rattle.fsl_disk.specs.Disk.{Torn, CutShort}
use Rattle.fsl_disk.specs.Change.{reads, stable, AreInside}
use Rattle.fsl_disk.specs.declared.change.Change.{Change}
use Rattle.fsl_disk.specs.declared.change.Change.TheVariants.{Write, Cut, Sync}

-- the bytes at the beginning, and the changes since, the newest first
pub record Past : Type 0 where
  pub first : List ℕ
  pub changes : List Change

-- the bytes at the beginning: what was kept of them, or the present ones while nothing is kept
abbrev pub beginning : Option (List ℕ) → List ℕ → List ℕ
beginning None bytes = bytes
beginning (Some first) bytes = first

-- a change that isn't a sync
abbrev pub IsPart : Change → Type 0
IsPart (Write at bytes range) = Unit {0}
IsPart (Cut len left) = Unit {0}
IsPart Sync = ⊥

-- The changes, the oldest first, make these bytes, and the first so many are stable.
pub record AreKept (first : List ℕ) (changes : List Change) (synced : ℕ) (bytes : List ℕ) : Type 0 where
  pub replays : bytes ≡ reads first (reverse changes)
  pub inside : AreInside first (reverse changes)
  pub within : synced ≤ length changes
  pub settled : stable first (reverse changes) ≡ reads first (reverse (take synced changes))
  pub parts : All IsPart (drop synced changes)

-- what a stopped change makes of contents; a sync is no such change
abbrev pub Stopped : Change → List ℕ → List ℕ → Type 0
Stopped (Write at bytes range) old new = Torn at range old new
Stopped (Cut len left) old new = CutShort len old new
Stopped Sync old new = ⊥

-- what stopped changes make of contents, one after another, the newest first
abbrev pub Wears : List Change → List ℕ → List ℕ → Type 0
Wears [] old new = new ≡ old
Wears (change ∷ before) old new = (mid : List ℕ) × Wears before old mid × Stopped change mid new
