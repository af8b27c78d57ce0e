-- What the opening of a repository answers.
use Rattle.std.specs.Prelude.{◌≡◌, ◌⊎◌, ℕ, ◌+◌, ◌-◌, List, All, [], length, take, slice_get, Option, Some, None, Result, Ok, Err, ⊤}
use Rattle.std.specs.List.{AllZip}
use Rattle.fsl_disk.specs.Disk.{DiskState, IsModelled, Told, Keeps, Quiet, LeavesOnly}
use Rattle.fsl_order.specs.Causes.{Rose}
use Rattle.fsl_record.specs.declared.Record.{Record}
use Rattle.fsl_record.specs.declared.Record.TheVariants as record_of
use Rattle.fsl_artifact.specs.declared.Artifact.{Artifact}
use Rattle.fsl_artifact.specs.Kind.{IsKind}
use Rattle.fsl_blobs.specs.declared.Holding.{Holding}
use Rattle.fsl_journal.specs.File.{IsFileOf, FailsAt}
use Rattle.fsl_journal.specs.Journal.{Belongs, OfBytes, HeldOrSame, IsLeft, IsSpared}
use Rattle.fsl_journal.specs.Log.{Log, IsLoaded, IsBetween, StandsBetween, WhereBetween}
use Rattle.fsl_journal.specs.Places.{IsPlacedFile}
use Rattle.fsl_journal.specs.declared.LoadFault.{LoadFault}
use Rattle.fsl_journal.specs.declared.LoadFault.TheVariants as load_fault
use Rattle.fsl_blobs.specs.Fold.{Contents, contents}
use Rattle.fsl_blobs.specs.Seen as blobs
use Rattle.fsl_cross.specs.declared.Item.{Item}
use Rattle.fsl_cross.specs.Tables as tables
use Rattle.fsl_cross.specs.Tables.{IsItem}
use Rattle.std.specs.FinSet as set
use Rattle.fsl_repo.specs.Machine.{AreItems, configured}
use Rattle.fsl_repo.specs.Whole.{Whole, is_modelled, opened}

-- the disk that comes back
abbrev pub disk_of : {D : Type 0} → Result (Whole D) (D × LoadFault) → D
disk_of (Ok repo) = repo.disk
disk_of (Err failed) = failed.0

-- what was read of a record: what a blob's bytes are, and nothing of another record
abbrev pub IsReadOf : Record → Option Artifact → Type 0
IsReadOf (record_of.Blob private name receipt bytes) (Some a) = IsKind bytes a
IsReadOf (record_of.Blob private name receipt bytes) None = ⊥
IsReadOf r found = found ≡ None

-- what was read of the record at a held artifact's place is what its bytes are
abbrev pub IsReadAt : List (Option Artifact) → Holding → Type 0
IsReadAt found h = (a : Artifact) × (slice_get found (h.place - 1) ≡ Some (Some a)) × IsKind h.bytes.now.value a

-- the records of the groups that were read so far, and where their contents begin; none before the first group
abbrev pub records_in : Option blobs.Seen → List Record
records_in None = []
records_in (Some kept) = kept.records

abbrev pub starts_in : Option blobs.Seen → List ℕ
starts_in None = []
starts_in (Some kept) = kept.starts

-- nothing is announced, and no content kept in memory
abbrev pub AreFresh : Option blobs.Seen → Type 0
AreFresh None = ⊤
AreFresh (Some kept) = (kept.announced ≡ set.empty) × (kept.cached ≡ [])

-- and of each record it was read what a blob's bytes are
pub record AreGathered (kept : Option blobs.Seen) (found : List (Option Artifact)) : Type 0 where
  pub fresh : AreFresh kept
  pub read : AllZip IsReadOf (records_in kept) found

-- the artifacts that these records leave, whose contents begin at these places; nothing is announced, and no content kept in memory
abbrev pub IsFolded : List Record → List ℕ → blobs.Seen → Type 0
IsFolded records places kept = kept ≡ record { records = records; starts = places; announced = set.empty; cached = [] }

-- the artifacts that these records leave, whose contents begin at these places, and their tables
pub record AreDerived (records : List Record) (places : List ℕ) (kept : blobs.Seen) (all : tables.Seen) : Type 0 where
  pub held : IsFolded records places kept
  pub items : AreItems (contents records).held all.items
  pub fields : all.fields ≡ configured (contents records)

-- the artifacts that these records leave, and what each of them is
pub record AreHeld (records : List Record) (places : List ℕ) (kept : blobs.Seen) (read : List Item) : Type 0 where
  pub held : IsFolded records places kept
  pub items : AreItems (contents records).held read
  pub kinds : All IsItem read

-- the items are there that the held artifacts are
abbrev pub HasItems : Contents → Option (List Item) → Type 0
HasItems c None = ⊥
HasItems c (Some items) = AreItems c.held items × All IsItem items

-- an opening that answers Ok: the file stood for the records, and was cut behind its closed gate
pub record IsOpened {D : Type 0} (before after : DiskState) (repo : Whole D) : Type 0 where
  pub state : repo.seen.state ≡ opened repo.seen.state.records before.faults (is_modelled before)
  pub loaded : repo.seen.loaded ≡ length repo.seen.state.records
  pub stands : OfBytes before (λ bytes. IsFileOf bytes repo.seen.state.records)
  pub cut : Told before (λ held. after.contents ≡ Some (take (repo.place + 1) held))
  pub faults : after.faults ≡ before.faults

-- an opening of the file alone that answers Ok: the file stood for the records, with their contents at these places, and was cut behind its closed gate; all records are
-- committed, and the artifacts are what they leave
pub record IsFileOpened (before after : DiskState) (log : Log) (kept : blobs.Seen) : Type 0 where
  pub loaded : IsLoaded log kept.records
  pub held : IsFolded kept.records log.places kept
  pub stands : OfBytes before (λ bytes. IsFileOf bytes kept.records)
  pub placed : OfBytes before (λ bytes. IsPlacedFile bytes kept.records log.places)
  pub cut : Told before (λ bytes. after.contents ≡ Some (take (log.place + 1) bytes))
  pub faults : after.faults ≡ before.faults
  pub belongs : Belongs log after
  -- where each image stood for records between two lists, so do these
  pub between : WhereBetween before (λ low high. IsBetween low high kept.records)
  -- and each image then stands for exactly these
  pub durable : IsModelled before → (c : List ℕ) → after.images c → IsFileOf c kept.records

-- what an opening leaves of the file, whatever it answers
pub record SparesFile (before after : DiskState) : Type 0 where
  pub keeps : Keeps before after
  -- a file that fails to stand for records stays, at each moment
  pub refused : Told before (λ bytes. (at : ℕ) → FailsAt bytes at → Quiet before after)
  -- whatever it holds, a crash at each moment leaves what one before the call might have left, or a file of the records that it stood for; and so does the call
  pub harmless : IsModelled before → LeavesOnly before after (HeldOrSame before)
  pub spared : IsSpared before after
  -- where each image stands for records between two lists, each does so at each moment
  pub any_moment : WhereBetween before (λ low high. LeavesOnly before after (StandsBetween low high))

-- what an opening for which there was no memory leaves: the file as it was, or cut behind its closed gate
pub record IsCutAtMost (before after : DiskState) : Type 0 where
  pub faults : after.faults ≡ before.faults
  pub contents : (after.contents ≡ before.contents) ⊎ ((records : List Record) × (place : ℕ) × OfBytes before (λ bytes. IsFileOf bytes records)
      × Told before (λ held. after.contents ≡ Some (take (place + 1) held)) × Told after (λ held. IsFileOf held records))

-- an opening that answers a fault
abbrev pub OpenFailed : LoadFault → DiskState → DiskState → Type 0
OpenFailed load_fault.Disk before after = Rose before.faults after.faults
OpenFailed (load_fault.NotRepository at) before after = IsLeft before after × Quiet before after × OfBytes before (λ bytes. FailsAt bytes at)
OpenFailed load_fault.Memory before after = IsCutAtMost before after
