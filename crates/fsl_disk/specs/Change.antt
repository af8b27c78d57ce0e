-- What the calls of a disk make of the contents that it began with. The newest call stands first.
use Rattle.std.specs.Prelude.{◌≡◌, ◌⊎◌, ◌≤◌, ℕ, List, [], ◌∷◌, length, take}
use Rattle.fsl_disk.specs.Disk.{Torn, CutShort, written}
use Rattle.fsl_disk.specs.declared.change.Change.{Change}
use Rattle.fsl_disk.specs.declared.change.Change.TheVariants.{Write, Cut, Sync}

-- what a read gives
abbrev pub reads : List ℕ → List Change → List ℕ
reads first [] = first
reads first (Write at bytes range ∷ before) = written at bytes (reads first before)
reads first (Cut len left ∷ before) = take left (reads first before)
reads first (Sync ∷ before) = reads first before

-- what a crash may leave: what a read gives, or what a call that was stopped makes of what might have been left before it
abbrev pub Leaves : List ℕ → List Change → List ℕ → Type 0
Leaves first [] c = c ≡ first
Leaves first (Write at bytes range ∷ before) c = (c ≡ written at bytes (reads first before)) ⊎ ((d : List ℕ) × Leaves first before d × Torn at range d c)
Leaves first (Cut len left ∷ before) c = (c ≡ take left (reads first before)) ⊎ ((d : List ℕ) × Leaves first before d × CutShort len d c)
Leaves first (Sync ∷ before) c = c ≡ reads first before

-- what a crash at some moment from t on might have left, where a moment is the number of changes before it
abbrev pub LeftSince : List ℕ → List Change → ℕ → List ℕ → Type 0
LeftSince first [] t c = Leaves first [] c
LeftSince first (change ∷ before) t c = Leaves first (change ∷ before) c ⊎ ((t ≤ length before) × LeftSince first before t c)

-- each change was one that a disk takes: a write begins inside, and a call that was stopped did a part of its work
abbrev pub AreInside : List ℕ → List Change → Type 0
AreInside first [] = Unit {0}
AreInside first (Write at bytes range ∷ before) = (at ≤ length (reads first before)) × (length bytes ≤ range) × AreInside first before
AreInside first (Cut len left ∷ before) = (len ≤ left) × AreInside first before
AreInside first (Sync ∷ before) = AreInside first before

-- what a read gave at the last sync, or at the beginning
abbrev pub stable : List ℕ → List Change → List ℕ
stable first [] = first
stable first (Write at bytes range ∷ before) = stable first before
stable first (Cut len left ∷ before) = stable first before
stable first (Sync ∷ before) = reads first before
