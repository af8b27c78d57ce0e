-- What is read of a repository and written into a new file, as it was read.
use Rattle.std.specs.Prelude.{◌≡◌, ℕ, List, Some, filter_map, option_to_list, Result, IfErr, OnOk}
use Rattle.fsl_disk.specs.Disk.{DiskState, Quiet}
use Rattle.fsl_record.specs.declared.Record.{Record}
use Rattle.fsl_record.specs.Records.{records_bytes}
use Rattle.fsl_blobs.specs.declared.Placed.{Placed}
use Rattle.fsl_repo.specs.Machine.{Leaves, State, now}
use Rattle.fsl_repo.specs.Whole.{Whole, log_of}
use Rattle.fsl_scrub.specs.declared.faults.WriteFault.{WriteFault}
use Rattle.fsl_scrub.specs.Faults.{ReadFails}
use Rattle.fsl_scrub.specs.Growing.{Writes}
use Rattle.fsl_scrub.specs.Scrubbed.{AreWrittenAs, IsWrittenAs, blob_of, group_of}

-- calls that leave a repository as it was, but for the count of its disk's faults: the disk is read alone, and a fault says what became of it
pub record OnlyReads {D X : Type 0} (before after : DiskState) (old new : Whole D) (result : Result X WriteFault) : Type 0 where
  pub quiet : Quiet before after
  pub state : Leaves old.seen.state old.seen.state new.seen.state
  pub items : new.seen.items ≡ old.seen.items
  pub loaded : new.seen.loaded ≡ old.seen.loaded
  pub log : log_of new ≡ log_of old
  pub same : OnOk result (new.seen.state ≡ old.seen.state)
  pub failed : IfErr result (λ fault. ReadFails fault old.seen.state new.seen.state)

-- the Blob of a held name, as it is written
abbrev pub IsBlobNow : State → List ℕ → Record → Type 0
IsBlobNow s name entry = (due : Record) × (blob_of (now s) name ≡ Some due) × IsWrittenAs s.honest due entry

-- the Blob of a name that may be held, and those of some names
abbrev pub blob_now : State → List ℕ → List Record
blob_now s name = option_to_list (blob_of (now s) name)

abbrev pub blobs_now : State → List Placed → List Record
blobs_now s names = filter_map (λ p. blob_of (now s) p.name) names

-- the group of these names and shunned names
abbrev pub group_now : State → List Placed → List (List ℕ) → List Record
group_now s names shuns = group_of (now s) names shuns

-- this is so of these records as they are written
abbrev pub AsWritten : State → List Record → (List Record → Type 0) → Type 0
AsWritten s due P = (written : List Record) × AreWrittenAs s.honest due written × P written

-- the writing of such records at the end of a file, which is this place
abbrev pub WritesRecords : State → List Record → ℕ → DiskState → DiskState → Result ℕ WriteFault → Type 0
WritesRecords s due at old new result = AsWritten s due (λ written. Writes at (records_bytes written) old new result)
