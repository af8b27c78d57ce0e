-- What clauses see of a repository, what every repository meets, and which of two is later.
use Rattle.std.specs.Prelude.{◌≡◌, ℕ, ◌+◌, ◌≤◌, List, ◌++◌, length, take, drop, count_by, Bool, true, false, ◌&&◌, is_some, None}
use Rattle.std.specs.FinSet as set
use Rattle.fsl_disk.specs.Disk.{DiskState, IsModelled}
use Rattle.fsl_record.specs.declared.Record.{Record}
use Rattle.fsl_record.specs.declared.Record.TheVariants as record_of
use Rattle.fsl_record.specs.Records.{AreRecords}
use Rattle.fsl_journal.specs.File.{IsFileOf}
use Rattle.fsl_journal.specs.Journal.{Belongs}
use Rattle.fsl_journal.specs.Log.{Log, StandsBetween}
use Rattle.fsl_cross.specs.declared.Item.{Item}
use Rattle.fsl_repo.specs.Machine.{State, AreItems, AnnouncedAreNew, now}

-- a repository's state, the artifacts of its tables, and how many records were loaded
pub record Seen : Type 0 where
  pub state : State
  pub items : List Item
  pub loaded : ℕ

-- what clauses see of a repository: that, its disk, where the contents of its records begin in the file, the byte of the header that tells the version, and where the closed gate stands
pub record Whole (D : Type 0) : Type 0 where
  pub disk : D
  pub seen : Seen
  pub places : List ℕ
  pub mark : ℕ
  pub place : ℕ

-- its journal
abbrev pub log_of : {D : Type 0} → Whole D → Log
log_of r = record { records = r.seen.state.records; places = r.places; stable = r.seen.state.committed; stopped = r.seen.state.stopped; mark = r.mark; place = r.place }

-- the committed records
abbrev pub front : State → List Record
front s = take s.committed s.records

-- how many of the records are blobs
abbrev pub is_blob : Record → Bool
is_blob (record_of.Blob private name receipt bytes) = true
is_blob _ = false

abbrev pub blobs : List Record → ℕ
blobs records = count_by is_blob records

-- how many artifacts were stored since it was loaded
abbrev pub stored : Seen → ℕ
stored s = blobs (drop s.loaded s.state.records)

-- whether a disk tells its contents and meets the disk model
abbrev pub is_modelled : DiskState → Bool
is_modelled disk = is_some disk.contents && disk.is_model

-- what every repository meets
pub record IsWhole (s : Seen) : Type 0 where
  pub records : AreRecords s.state.records
  pub committed : s.state.committed ≤ length s.state.records
  pub loaded : s.loaded ≤ s.state.committed
  -- its tables are those of the held artifacts, which are what the records leave
  pub items : AreItems (now s.state).held s.items
  pub announced : AnnouncedAreNew s.state

-- and what it meets with its disk
pub record IsWholeOn {D : Type 0} (disk : DiskState) (r : Whole D) : Type 0 where
  pub seen : IsWhole r.seen
  pub faults : r.seen.state.faults ≡ disk.faults
  pub honest : r.seen.state.honest ≡ is_modelled disk
  -- the disk is the journal's
  pub belongs : Belongs (log_of r) disk
  -- each image that the disk may leave now stands for a front of the records with the committed ones at least
  pub images : IsModelled disk → (c : List ℕ) → disk.images c → StandsBetween (front r.seen.state) r.seen.state.records c
  -- and for exactly these where it isn't stopped
  pub exact : r.seen.state.stopped ≡ None → IsModelled disk → (c : List ℕ) → disk.images c → IsFileOf c (front r.seen.state)

-- the state right after loading these records from such a disk
abbrev pub opened : List Record → ℕ → Bool → State
opened records faults honest = record { records = records; committed = length records; announced = set.empty; stopped = None; faults = faults; honest = honest }

-- one is later than another: its records go on, and as many were stored as blobs came
pub record IsLater (old new : Seen) : Type 0 where
  pub more : List Record
  pub records : new.state.records ≡ old.state.records ++ more
  pub stored : stored new ≡ stored old + blobs more
