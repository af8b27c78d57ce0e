-- What a file stands for behind any number of openings and commits, each of which may have been stopped at any moment.
use Rattle.std.specs.Prelude.{◌≡◌, ◌⊎◌, ◌≤◌, ℕ, Bool, true, false, List, [], ◌∷◌, ◌++◌}
use Rattle.fsl_disk.specs.Disk.{DiskState, IsModelled, LeavesOnly}
use Rattle.fsl_record.specs.declared.Record.{Record}
use Rattle.fsl_journal.specs.File.{IsFileOf}
use Rattle.fsl_journal.specs.Log.{IsBetween, StandsBetween}

-- each of these images stands for records between the two lists
abbrev pub AreBetween : List Record → List Record → (List ℕ → Type 0) → Type 0
AreBetween low high images = (c : List ℕ) → images c → StandsBetween low high c

-- which records a work may put behind others
abbrev pub Puts : Type 0 → Type 1
Puts W = W → List Record → List Record → Type 0

-- one commit that was tried: the work that put its records there, whether somebody heard that it was done, and which records these are
pub record Try (W : Type 0) : Type 0 where
  pub work : W
  pub heard : Bool
  pub group : List Record

-- what may stand in a file behind these tries, the last of which is the first here: a list between the two that there was before them, and of each try all
-- of its group, which its work puts behind what stood there, or, where nobody heard that it was done, none of it
abbrev pub Reached : {W : Type 0} → Puts W → List Record → List Record → List (Try W) → List Record → Type 0
Reached puts low high [] records = IsBetween low high records
Reached puts low high (t ∷ before) records =
    ((old : List Record) × Reached puts low high before old × puts t.work old t.group × (records ≡ old ++ t.group))
    ⊎ ((t.heard ≡ false) × Reached puts low high before records)

-- the bytes stand for such a list
abbrev pub StandsReached : {W : Type 0} → Puts W → List Record → List Record → List (Try W) → List ℕ → Type 0
StandsReached puts low high tries bytes = (records : List Record) × IsFileOf bytes records × Reached puts low high tries records

-- each of these images does
abbrev pub AreReached : {W : Type 0} → Puts W → List Record → List Record → List (Try W) → (List ℕ → Type 0) → Type 0
AreReached puts low high tries images = (c : List ℕ) → images c → StandsReached puts low high tries c

-- a try of a work
abbrev pub try_of : {W : Type 0} → W → Bool → List Record → Try W
try_of work heard group = record { work = work; heard = heard; group = group }

-- whatever was tried before: at each moment each image of a modelled disk stands for what was reached or, with all of this group, behind it
abbrev pub MayHave : {W : Type 0} → Puts W → W → List Record → DiskState → DiskState → Type 0
MayHave {W} puts work group before after =
    IsModelled before → (low high : List Record) (tries : List (Try W)) → AreReached puts low high tries before.images →
    LeavesOnly before after (StandsReached puts low high (try_of work false group ∷ tries))

-- whatever was tried before: each image stands for what was reached with all of the try's group behind it or, where nobody heard of it, without
abbrev pub Has : {W : Type 0} → Puts W → Try W → DiskState → DiskState → Type 0
Has {W} puts t before after =
    IsModelled before → (low high : List Record) (tries : List (Try W)) → AreReached puts low high tries before.images →
    AreReached puts low high (t ∷ tries) after.images

-- what stands behind an outage: a disk of its kind, of which a crash leaves nothing but what one at some moment since the beginning might have left
pub record IsLeftBy (began ended left : DiskState) : Type 0 where
  pub modelled : IsModelled ended → IsModelled left
  pub images : IsModelled ended → (c : List ℕ) → left.images c → ended.since began.moment c

-- the disk wasn't set back since
abbrev pub IsSince : DiskState → DiskState → Type 0
IsSince began ended = IsModelled ended → began.moment ≤ ended.moment

-- Law. The group of a try that was heard to be done stays, behind what stood there before it
abbrev pub HeardStays : {W : Type 0} → Puts W → Type 0
HeardStays {W} puts =
    (low high : List Record) (work : W) (group : List Record) (later before : List (Try W)) (records : List Record) →
    Reached puts low high (later ++ try_of work true group ∷ before) records →
    (old : List Record) × (rest : List Record) × Reached puts low high before old × puts work old group × (records ≡ old ++ group ++ rest)

-- Law. What stood there before all tries stays
abbrev pub FirstStays : {W : Type 0} → Puts W → Type 0
FirstStays {W} puts =
    (low high : List Record) (tries : List (Try W)) (records : List Record) → Reached puts low high tries records
    → (rest : List Record) × (records ≡ low ++ rest)
