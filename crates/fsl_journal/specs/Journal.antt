-- When a disk belongs to a journal, and what the answers of its calls say.
use Rattle.std.specs.Prelude.{◌≡◌, ◌≢◌, ◌⊎◌, ℕ, ◌+◌, ◌≤◌, ◌<◌, ◌==◌, ◌||◌, not, if◌then◌else◌, None, Some, List, [], ◌∷◌, length, slice_index, IsTrue}
use Rattle.fsl_disk.specs.Disk.{DiskState, IsModelled, Told, Begins, Quiet}
use Rattle.fsl_order.specs.Causes.{Rose}
use Rattle.fsl_record.specs.declared.Config.{Config}
use Rattle.fsl_record.specs.declared.Record.{Record}
use Rattle.fsl_record.specs.declared.Record.TheVariants as record_of
use Rattle.fsl_record.specs.Records.{records_bytes}
use Rattle.fsl_journal.specs.Commit.{CarriesGroup}
use Rattle.fsl_journal.specs.File.{IsFileOf, FailsAt, mark_1, mark_2}
use Rattle.fsl_journal.specs.Log.{Log, committed, uncommitted, BeforeOrAll, IsLog, IsNoFile}
use Rattle.fsl_journal.specs.Places.{IsCommitted, StandsAt}
use Rattle.fsl_journal.specs.declared.BytesFault.{BytesFault}
use Rattle.fsl_journal.specs.declared.BytesFault.TheVariants as bytes_fault
use Rattle.fsl_journal.specs.declared.CommitFault.{CommitFault}
use Rattle.fsl_journal.specs.declared.CommitFault.TheVariants as commit_fault
use Rattle.fsl_journal.specs.declared.CreateFault.{CreateFault}
use Rattle.fsl_journal.specs.declared.CreateFault.TheVariants as create_fault
use Rattle.fsl_journal.specs.declared.LoadFault.{LoadFault}
use Rattle.fsl_journal.specs.declared.LoadFault.TheVariants as load_fault

-- Of the contents that a disk tells this holds, where a commit that failed can't have spoilt them: the journal runs, or the
-- disk meets the disk model.
abbrev pub Unspoilt : Log → DiskState → (List ℕ → Type 0) → Type 0
Unspoilt log disk P = (log.stopped ≡ None) ⊎ IsTrue disk.is_model → Told disk P

-- the disk belongs to the journal
pub record Belongs (log : Log) (disk : DiskState) : Type 0 where
  pub counts : log.stable ≤ length log.records
  pub as_many : length log.places ≡ length log.records
  -- each committed content stands where this journal loaded or wrote it
  pub contents : Unspoilt log disk (λ held. (at : ℕ) (content : List ℕ) → IsCommitted log at content → StandsAt at content held)
  -- while it runs, the file stands for the committed records, and its last byte is the closed gate
  pub reads : log.stopped ≡ None → Told disk (λ held. IsLog (committed log) log.mark log.place held × (length held ≡ log.place + 1))
  -- and each image begins with what the file reads as
  pub images : log.stopped ≡ None → IsTrue disk.is_model → Told disk (λ held. (c : List ℕ) → disk.images c → Begins held c)
  -- each image stands for the committed records, or after a commit that failed for all
  pub stands : IsModelled disk → (c : List ℕ) → disk.images c → BeforeOrAll log c

-- the mark of a file after a commit: one that writes carries version 1 over to version 2
abbrev pub mark_after : Log → ℕ
mark_after log = if (log.stable == length log.records) || not (log.mark == mark_1) then log.mark else mark_2

-- where the closed gate stands after a commit: one that writes puts a gate, a length of 8 bytes and the appended records before it
abbrev pub place_after : Log → ℕ
place_after log = if log.stable == length log.records then log.place else log.place + 9 + length (records_bytes (uncommitted log))

-- a commit that answers Ok: the journal ran and goes on, and each record is committed
pub record Committed (answer : ℕ) (old new : Log) (before after : DiskState) : Type 0 where
  pub runs : old.stopped ≡ None
  pub all : answer ≡ length old.records
  pub records : new.records ≡ old.records
  pub places : new.places ≡ old.places
  pub mark : new.mark ≡ mark_after old
  pub place : new.place ≡ place_after old
  pub stable : new.stable ≡ length old.records
  pub goes_on : new.stopped ≡ None
  pub faults : after.faults ≡ before.faults

-- what a commit makes of the contents, where there is something to commit: of version 2, with one group more that has the bytes of the appended records
abbrev pub WritesGroup : Log → DiskState → DiskState → Type 0
WritesGroup log before after = log.stable ≢ length log.records → CarriesGroup log.mark log.place (records_bytes (uncommitted log)) before after

-- a commit that answers a fault: it was stopped, or the disk's count rose and now it is
abbrev pub CommitFailed : CommitFault → Log → Log → DiskState → DiskState → Type 0
CommitFailed (commit_fault.Stopped faults) old new before after = (old.stopped ≡ Some faults) × (new ≡ old)
CommitFailed commit_fault.Disk old new before after = (old.stopped ≡ None) × (new ≡ record old { stopped = Some after.faults }) × Rose before.faults after.faults

-- a read of a content that answers a fault
abbrev pub BytesFailed : BytesFault → DiskState → DiskState → Type 0
BytesFailed bytes_fault.Disk before after = Rose before.faults after.faults
BytesFailed bytes_fault.Memory before after = after.faults ≡ before.faults

-- P holds of the bytes that were read, which are those that the disk tells
abbrev pub OfBytes : DiskState → (List ℕ → Type 0) → Type 0
OfBytes disk P = (bytes : List ℕ) × Told disk (λ held. bytes ≡ held) × P bytes

-- what a call that only read leaves
pub record IsLeft (before after : DiskState) : Type 0 where
  pub contents : after.contents ≡ before.contents
  pub faults : after.faults ≡ before.faults

-- what an opening may leave to a crash: what a crash before it might have left, or a file of the records that the file stood for
abbrev pub HeldOrSame : DiskState → List ℕ → Type 0
HeldOrSame before c = before.images c ⊎ ((records : List Record) × OfBytes before (λ bytes. IsFileOf bytes records) × IsFileOf c records)

-- what an opening leaves of the contents: these, or a file of the records that they stood for; of a disk that failed this is known by the disk model alone
abbrev pub IsSpared : DiskState → DiskState → Type 0
IsSpared before after =
    (after.contents ≡ before.contents)
    ⊎ ((records : List Record) × OfBytes before (λ bytes. IsFileOf bytes records) × (IsModelled before → Told after (λ held. IsFileOf held records)))

-- an opening that answers a fault
abbrev pub LoadFailed : LoadFault → DiskState → DiskState → Type 0
LoadFailed load_fault.Disk before after = Rose before.faults after.faults
LoadFailed (load_fault.NotRepository at) before after = IsLeft before after × Quiet before after × OfBytes before (λ bytes. FailsAt bytes at)
LoadFailed load_fault.Memory before after = IsLeft before after × Quiet before after

-- a file that is no repository, or one with this Config alone
abbrev pub NothingOr : Config → List ℕ → Type 0
NothingOr config bytes = IsNoFile bytes ⊎ IsFileOf bytes (record_of.Config config ∷ [])

-- the making of a file that answers a fault
abbrev pub CreateFailed : CreateFault → DiskState → DiskState → Type 0
CreateFailed (create_fault.NotEmpty len) before after = IsLeft before after × (0 < len) × Told before (λ held. len ≡ length held) × Quiet before after
CreateFailed create_fault.Disk before after = Rose before.faults after.faults
CreateFailed create_fault.Memory before after = IsLeft before after × Told before (λ held. held ≡ []) × Quiet before after

-- the making of a file that answers Ok: it was empty, and stands for this Config alone
pub record IsMade (config : Config) (before after : DiskState) : Type 0 where
  pub faults : after.faults ≡ before.faults
  pub was : Told before (λ held. held ≡ [])
  pub file : Told before (λ _. (held : List ℕ) × (after.contents ≡ Some held) × IsFileOf held (record_of.Config config ∷ []))
  -- of version 2
  pub mark : Told before (λ _. (held : List ℕ) × (after.contents ≡ Some held) × (slice_index held 13 ≡ mark_2))
