-- What clauses see of a disk over the front of a file that another process may write to.
use Rattle.std.specs.Prelude.{◌≡◌, ◌⊎◌, ◌≤◌, ◌<◌, ◌^◌, ◌==◌, if◌then◌else◌, ◌+◌, ℕ, false, Option, None, Some, List, length, take, slice_index, slice_set}
use Rattle.std.specs.Option.{option_map}
use Rattle.fsl_disk.specs.Disk.{DiskState}
use Rattle.fsl_disk.specs.Shared.{SharedState, ToldOf}
use Rattle.fsl_disk.specs.declared.front.Front.{Front}
use Rattle.fsl_disk.specs.declared.front.Seen.{Seen}

-- a byte as it was seen, in place of the one that is there
abbrev pub put : Option Seen → List ℕ → List ℕ
put None bytes = bytes
put (Some seen) bytes = slice_set bytes seen.at seen.byte

-- the bytes of a front
abbrev pub shown : Front → List ℕ → List ℕ
shown front bytes = take front.len (put front.gate (put front.mark bytes))

-- what is given of a byte at a place
abbrev pub byte_at : Option Seen → ℕ → ℕ → ℕ
byte_at None k byte = byte
byte_at (Some seen) k byte = if k == seen.at then seen.byte else byte

-- the byte at this place was seen
abbrev pub IsAt : Option Seen → ℕ → Type 0
IsAt None k = ⊥
IsAt (Some seen) k = k ≡ seen.at

-- from a moment on the bytes of a front stay, but for those that were seen
abbrev pub Stays : Front → (ℕ → List ℕ) → ℕ → Type 0
Stays front held from = (m : ℕ) → from ≤ m → (front.len ≤ length (held m)) × ((k : ℕ) → k < front.len → IsAt front.mark k ⊎ IsAt front.gate k ⊎ (slice_index (held m) k ≡ slice_index (held from) k))

-- the file, as it is and as it was when the disk was made, what is read of it, and how many calls failed, up to the last value of u64
pub record Fronted (F : Type 0) : Type 0 where
  pub file : F
  pub first : F
  pub front : Front
  pub faults : ℕ

-- it tells the front, where the file tells what it holds, and doesn't claim the disk model
abbrev pub fronted : {F : Type 0} → (F → SharedState) → F → Front → ℕ → DiskState
fronted state first front faults = record {
  contents = option_map (λ held. shown front (held (state first).moment)) (state first).held;
  is_model = false;
  images = λ c. Unit {0};
  moment = 0;
  since = λ t c. Unit {0};
  faults = faults;
}

-- a disk over a front, as a clause sees any disk
abbrev pub front_state : {F : Type 0} → (F → SharedState) → Fronted F → DiskState
front_state state d = fronted state d.first d.front d.faults

-- what is read of a file stays since it was taken over
pub record IsFronted (first now : SharedState) (front : Front) : Type 0 where
  pub len : front.len < 2 ^ 63
  pub same : now.held ≡ first.held
  pub later : first.moment ≤ now.moment
  pub stays : ToldOf first (λ held. Stays front held first.moment)

-- each of these bytes, which were read from a place on, is the file's at a moment behind that one, or was seen
abbrev pub AreShown : Front → (ℕ → List ℕ) → ℕ → ℕ → List ℕ → Type 0
AreShown front held from at bytes =
    (k : ℕ) → k < length bytes → (m : ℕ) × (from ≤ m) × (slice_index bytes k ≡ byte_at front.gate (at + k) (byte_at front.mark (at + k) (slice_index (held m) (at + k))))
