-- What a crash may leave, said place by place.
use Rattle.std.specs.Prelude.{◌≡◌, ◌⊎◌, ◌↔◌, ◌+◌, ◌<◌, ◌≤◌, ℕ, min, max, List, [], ◌∷◌, length, slice_index}
use Rattle.fsl_disk.specs.Change.{reads, stable, Leaves, AreInside}
use Rattle.fsl_disk.specs.declared.change.Change.{Change}
use Rattle.fsl_disk.specs.declared.change.Change.TheVariants.{Write, Cut, Sync}

-- the least length since the last sync
abbrev pub least : List ℕ → List Change → ℕ
least first [] = length first
least first (Write at bytes range ∷ before) = least first before
least first (Cut len left ∷ before) = min len (least first before)
least first (Sync ∷ before) = length (reads first before)

-- the greatest length since the last sync
abbrev pub greatest : List ℕ → List Change → ℕ
greatest first [] = length first
greatest first (Write at bytes range ∷ before) = max (greatest first before) (at + range)
greatest first (Cut len left ∷ before) = greatest first before
greatest first (Sync ∷ before) = length (reads first before)

-- this place was written or cut since the last sync
abbrev pub IsTouched : List Change → ℕ → Type 0
IsTouched [] place = ⊥
IsTouched (Write at bytes range ∷ before) place = ((at ≤ place) × (place < at + range)) ⊎ IsTouched before place
IsTouched (Cut len left ∷ before) place = (len ≤ place) ⊎ IsTouched before place
IsTouched (Sync ∷ before) place = ⊥

-- The length lies between the least and the greatest since the last sync. Each place that was written or cut since may
-- hold any byte, and every other one holds its byte of then.
pub record IsImage (first : List ℕ) (past : List Change) (c : List ℕ) : Type 0 where
  pub no_shorter : least first past ≤ length c
  pub no_longer : length c ≤ greatest first past
  pub bytes : (place : ℕ) → place < length c → IsTouched past place ⊎ ((place < length (stable first past)) × (slice_index c place ≡ slice_index (stable first past) place))

-- After changes that a disk takes, a crash leaves exactly the contents that are such place by place.
abbrev pub ImagesByPlace : Type 0
ImagesByPlace = (first : List ℕ) (past : List Change) → AreInside first past → (c : List ℕ) → Leaves first past c ↔ IsImage first past c
