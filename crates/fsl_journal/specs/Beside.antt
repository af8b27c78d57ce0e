-- What one sees of a file who reads it while another process writes to it.
use Rattle.std.specs.Prelude.{◌≡◌, ◌⊎◌, ℕ, ◌+◌, ◌<◌, ◌≤◌, Option, Some, List, length, take, slice_index}
use Rattle.fsl_disk.specs.Disk.{Begins}
use Rattle.fsl_disk.specs.Front.{Stays, shown}
use Rattle.fsl_disk.specs.Shared.{SharedState, ToldOf, Within}
use Rattle.fsl_disk.specs.declared.front.Front.{Front}
use Rattle.fsl_record.specs.declared.Record.{Record}
use Rattle.fsl_journal.specs.Commit.{marked, HeldOrCarried}
use Rattle.fsl_journal.specs.File.{IsFileOf, FailsAt, mark_1}
use Rattle.fsl_journal.specs.Gates.{From, Grows, HasGroups, IsOpenAt}
use Rattle.fsl_journal.specs.Log.{IsLog}

-- a front of what the file held at a moment; where the file had version 1 then, the byte that tells the version may have been read later
abbrev pub IsSeen : List ℕ → List ℕ → Type 0
IsSeen held seen = Begins seen held ⊎ ((slice_index held 13 ≡ mark_1) × ((mark : ℕ) × Begins seen (marked mark held)))

-- what was seen of a file stands for no other records than the file did at that moment
abbrev pub IsSeenRight : Type 0
IsSeenRight = (held seen : List ℕ) (records other : List Record) → IsSeen held seen → IsFileOf seen records → IsFileOf held other → records ≡ other

-- what stands up to the closed gate stands for the records, also with another mark in place of that of version 1
abbrev pub IsFrontWhole : Type 0
IsFrontWhole = (held : List ℕ) (records : List Record) (mark place other : ℕ) → IsLog records mark place held →
    IsFileOf (take (place + 1) held) records × (mark ≡ mark_1 → IsFileOf (marked other (take (place + 1) held)) records)

-- what stands behind the closed gate has no meaning: files that are equal up to it stand for the same records
abbrev pub IsBehindNothing : Type 0
IsBehindNothing = (one other : List ℕ) (records : List Record) (mark place : ℕ) → IsLog records mark place one → take (place + 1) other ≡ take (place + 1) one → IsFileOf other records

-- below the gate at this place stand the bytes that were held, but for the byte that tells the version where the file had version 1
abbrev pub KeepsFront : ℕ → ℕ → List ℕ → List ℕ → Type 0
KeepsFront mark place held c = (take place c ≡ take place held) ⊎ ((mark ≡ mark_1) × ((other : ℕ) × (take place c ≡ take place (marked other held))))

-- whatever a commit behind a closed gate may leave at a moment of it keeps what stands before that gate
abbrev pub CommitKeeps : Type 0
CommitKeeps = (mark place : ℕ) (held body c : List ℕ) → 13 < place → length held ≡ place + 1 → HeldOrCarried mark held place body c → KeepsFront mark place held c

-- What stands up to the gate of a walk: this gate and the mark of the version as they were seen.
abbrev pub closed_front : ℕ → ℕ → ℕ → Front
closed_front gate byte mark = record { len = gate + 1; mark = Some (record { at = 13; byte = mark }); gate = Some (record { at = gate; byte = byte }) }

-- what a front shows of a file: it stays from now on, and is a front of what the file held at one moment between
pub record IsFrontOf (front : Front) (held : ℕ → List ℕ) (from now : ℕ) : Type 0 where
  pub stays : Stays front held now
  pub moment : ℕ
  pub since : from ≤ moment
  pub until : moment ≤ now
  pub seen : IsSeen (held moment) (shown front (held now))
  -- it has the groups that the file had then, ..
  pub groups : (mark : ℕ) (groups : List (List ℕ)) → HasGroups mark groups (held moment) → (later : ℕ) × HasGroups later groups (shown front (held now)) × ((later ≡ mark) ⊎ (mark ≡ mark_1))
  -- .. and all records that the file stood for
  pub whole : (records : List Record) → IsFileOf (held moment) records → IsFileOf (shown front (held now)) records

-- the file grows from now on, where it is told
abbrev pub IsGrowing : SharedState → Type 0
IsGrowing file = ToldOf file (λ held. Grows held file.moment)

-- what a walk over the gates answers of such a file
abbrev pub ShowsFront : SharedState → SharedState → Front → Type 0
ShowsFront old new front = ToldOf old (λ held. Grows held old.moment → IsFrontOf front held old.moment new.moment)

-- an opening of these bytes answers these records, and doesn't refuse them as no repository
pub record IsReadAs (committed : List Record) (bytes : List ℕ) : Type 0 where
  pub same : (records : List Record) → IsFileOf bytes records → records ≡ committed
  pub accepted : (at : ℕ) → FailsAt bytes at → ⊥

-- a byte that was read at this place: that of the file at a moment within the call
abbrev pub IsByteOf : SharedState → SharedState → (ℕ → List ℕ) → ℕ → ℕ → Type 0
IsByteOf old new held at byte = (m : ℕ) × Within old new m × (at < length (held m)) × (byte ≡ slice_index (held m) at)

-- up to this gate, with the mark that was read within the call
abbrev pub IsClosedFront : SharedState → SharedState → ℕ → ℕ → Front → Type 0
IsClosedFront old new gate byte front = (mark : ℕ) × (front ≡ closed_front gate byte mark) × ToldOf old (λ held. IsByteOf old new held 13 mark)

-- from now on a group stands behind the gate at this place, and the next gate behind it is this one
abbrev pub HasOpen : SharedState → ℕ → Type 0
HasOpen file gate = ToldOf file (λ held. (size : ℕ) × From held file.moment (IsOpenAt gate size))

abbrev pub LeadsTo : SharedState → ℕ → Option ℕ → Type 0
LeadsTo file gate next = (size : ℕ) → ToldOf file (λ held. From held file.moment (IsOpenAt gate size) → next ≡ Some (gate + 9 + size))

-- What is read beside a writer is what was committed when the reader began, or later: what the front shows, which are the contents of a disk over it, stands for
-- the records that the file stood for at the front's own moment, for these alone, and doesn't fail to be a file.
abbrev pub IsBesideRight : Type 0
IsBesideRight = (front : Front) (held : ℕ → List ℕ) (from now : ℕ) (is : IsFrontOf front held from now) (committed : List Record) →
    IsFileOf (held is.moment) committed → IsReadAs committed (shown front (held now))
