-- What a crash leaves while a new file is written, and in the end.
use Rattle.std.specs.Prelude.{◌≡◌, ◌≢◌, ◌⊎◌, ℕ, ◌^◌, ◌<◌, ◌≤◌, Bool, true, List, [], ◌∷◌, ◌++◌, length, Some, Result, IfOk, IfErr, IsErrAnd, OnOk, ⊤}
use Rattle.fsl_order.specs.Causes.{Rose}
use Rattle.fsl_disk.specs.Disk.{DiskState, IsModelled, Told, Keeps, LeavesOnly, Only, Quiet}
use Rattle.fsl_record.specs.declared.Record.{Record}
use Rattle.fsl_record.specs.Records.{AreRecords, records_bytes}
use Rattle.fsl_journal.specs.Commit.{body_of}
use Rattle.fsl_journal.specs.Create.{IsShort, new_file}
use Rattle.fsl_journal.specs.File.{IsFileOf, header, mark_2, open_gate}
use Rattle.fsl_journal.specs.Log.{WhereEmpty}
use Rattle.fsl_repo.specs.Machine.{State}
use Rattle.fsl_repo.specs.Replies.{IsSpoilt}
use Rattle.fsl_repo.specs.Whole.{Whole}
use Rattle.fsl_scrub.specs.declared.faults.ScrubFault.{ScrubFault}
use Rattle.fsl_scrub.specs.declared.faults.ScrubFault.TheVariants as scrub_fault
use Rattle.fsl_scrub.specs.declared.faults.WriteFault.{WriteFault}
use Rattle.fsl_scrub.specs.Faults.{SpareFails}
use Rattle.fsl_scrub.specs.Growing.{EachBegins}
use Rattle.fsl_scrub.specs.Scrubbed.{AreWrittenAs, file_text, scrubbed, unsized}
use Rattle.fsl_scrub.specs.Copying.{AsWritten}
use Rattle.fsl_scrub.specs.Growing.{Writes}

-- a file that isn't a repository yet: no longer than the header and a gate, or with a gate behind the header that isn't open
abbrev pub IsUnopened : List ℕ → Type 0
IsUnopened c = IsShort c ⊎ ((gate : ℕ) × (rest : List ℕ) × (c ≡ header mark_2 ++ gate ∷ rest) × (gate ≢ open_gate))

-- that, or the whole new file, whose length is below 2^64
abbrev pub UnopenedOr : List Record → List ℕ → Type 0
UnopenedOr records c = IsUnopened c ⊎ ((c ≡ file_text records) × (length c < 2 ^ 64))

-- the writing of a file with a closed gate in front of these records: at each moment it isn't a repository; after Ok all stands there, though it isn't stable
pub record ClosesFile (records : List Record) (old new : DiskState) (result : Result ℕ WriteFault) : Type 0 where
  pub keeps : Keeps old new
  pub contents : OnOk result (Told old (λ _. new.contents ≡ Some (new_file ++ body_of (records_bytes records))))
  pub begins : OnOk result (IsModelled old → EachBegins new_file new)
  pub moments : WhereEmpty old (LeavesOnly old new IsUnopened)
  pub len : IfOk result (λ len. len ≡ length (new_file ++ body_of (records_bytes records)))
  pub later : old.faults ≤ new.faults
  pub same : OnOk result (new.faults ≡ old.faults)
  pub failed : IfErr result (λ fault. SpareFails fault old.faults new.faults)

-- the writing of the whole file of these records
pub record WritesFile (records : List Record) (old new : DiskState) (result : Result ℕ WriteFault) : Type 0 where
  pub keeps : Keeps old new
  pub contents : OnOk result (Told old (λ _. new.contents ≡ Some (file_text records)))
  pub durable : OnOk result (IsModelled old → Only (file_text records) new.images)
  pub moments : WhereEmpty old (LeavesOnly old new (UnopenedOr records))
  pub len : IfOk result (λ len. len ≡ length (file_text records))
  pub later : old.faults ≤ new.faults
  pub same : OnOk result (new.faults ≡ old.faults)
  pub failed : IfErr result (λ fault. SpareFails fault old.faults new.faults)

-- the writing of a place for a group's length, of such records as they are written, and of a closed gate behind the first one
abbrev pub WritesGroup : State → List Record → DiskState → DiskState → Result ℕ WriteFault → Type 0
WritesGroup s due old new result = AsWritten s due (λ written. Writes 16 (unsized written) old new result)

-- and of their file, with a closed gate and whole
abbrev pub ClosesRecords : State → List Record → DiskState → DiskState → Result ℕ WriteFault → Type 0
ClosesRecords s due old new result = AsWritten s due (λ written. ClosesFile written old new result)

abbrev pub WritesWhole : State → List Record → DiskState → DiskState → Result ℕ WriteFault → Type 0
WritesWhole s due old new result = AsWritten s due (λ written. WritesFile written old new result)

-- ---- a scrub

-- where the repository's disk tells its contents and meets the disk model, this is so of the scrubbed records
abbrev pub WhereHonest : State → (List Record → Type 0) → Type 0
WhereHonest s P = s.honest ≡ true → P (scrubbed s.records)

-- the new file of these records, after a scrub with this answer: what it is, that it stands for them, each image, and each at each moment
pub record IsNewFile {A : Type 0} (old new : DiskState) (result : Result A ScrubFault) (records : List Record) : Type 0 where
  pub contents : OnOk result (Told old (λ _. new.contents ≡ Some (file_text records)))
  pub stands : OnOk result (IsFileOf (file_text records) records)
  pub durable : OnOk result (IsModelled old → Only (file_text records) new.images)
  pub moments : WhereEmpty old (LeavesOnly old new (UnopenedOr records))

-- a call of one of the two disks failed, and none of the other
abbrev pub OneFailed : State → State → DiskState → DiskState → Type 0
OneFailed old new before after = (Rose old.faults new.faults × (after.faults ≡ before.faults)) ⊎ (Rose before.faults after.faults × (new.faults ≡ old.faults))

-- none of the two failed
abbrev pub NoneFailed : State → State → DiskState → DiskState → Type 0
NoneFailed old new before after = (new.faults ≡ old.faults) × (after.faults ≡ before.faults)

-- a scrub that answers a fault: the spare file has bytes; a call of one disk failed; bytes with another name were read for a held name; or there was no memory
abbrev pub ScrubFailed : ScrubFault → State → State → DiskState → DiskState → Type 0
ScrubFailed (scrub_fault.NotEmpty len) old new before after = (0 < len) × Told before (λ held. len ≡ length held) × Quiet before after × NoneFailed old new before after
ScrubFailed scrub_fault.Disk old new before after = OneFailed old new before after
ScrubFailed (scrub_fault.Damaged name found) old new before after = IsSpoilt old name found × NoneFailed old new before after
ScrubFailed scrub_fault.Memory old new before after = NoneFailed old new before after

-- ---- the length of the spare file, which comes first

-- the spare file was empty, where its disk tells its contents
abbrev pub WasEmpty : DiskState → Type 0
WasEmpty before = Told before (λ held. held ≡ [])

-- a fault other than that the spare file has bytes
abbrev pub IsOfWriting : ScrubFault → Type 0
IsOfWriting (scrub_fault.NotEmpty len) = ⊥
IsOfWriting why = ⊤

-- what is answered for the length of the spare file: it was read and isn't 0, or the call that reads it failed
abbrev pub IsOfLength : ScrubFault → DiskState → DiskState → Type 0
IsOfLength (scrub_fault.NotEmpty len) before after = (0 < len) × Told before (λ held. len ≡ length held) × (after.faults ≡ before.faults)
IsOfLength scrub_fault.Disk before after = Rose before.faults after.faults
IsOfLength why before after = ⊥

-- the spare file was empty, and it isn't answered that it has bytes; or its length is answered for, with the repository as it was, and nothing of the spare file
-- changed. So where it has bytes and its disk tells them, that is answered, unless the call that reads the length failed
abbrev pub HasBegun : {A D : Type 0} → Whole D → Whole D → DiskState → DiskState → Result A ScrubFault → Type 0
HasBegun old new before after result =
    (WasEmpty before × IfErr result IsOfWriting)
    ⊎ (IsErrAnd result (λ why. IsOfLength why before after) × Quiet before after × (new ≡ old))

-- ---- laws

-- a file that isn't opened stands for no records
abbrev pub UnopenedStandsForNone : Type 0
UnopenedStandsForNone = (c : List ℕ) → IsUnopened c → (records : List Record) → ¬ (IsFileOf c records)

-- a whole new file stands for its records, where they are those of a repository and eight bytes hold their length
abbrev pub WholeStandsForAll : Type 0
WholeStandsForAll = (records : List Record) → AreRecords records → length (records_bytes records) < 2 ^ 64 → IsFileOf (file_text records) records

-- so at each moment of a scrub each image of the new file stands for no records or for the scrubbed ones
abbrev pub MomentsStand : Type 0
MomentsStand = (records : List Record) → AreRecords records → (c : List ℕ) → UnopenedOr (scrubbed records) c → ((others : List Record) → ¬ (IsFileOf c others)) ⊎ IsFileOf c (scrubbed records)

-- whatever the repository's disk is, this is so of them as they are written
abbrev pub WrittenMomentsStand : Type 0
WrittenMomentsStand = (honest : Bool) (records written : List Record) → AreRecords records → AreWrittenAs honest (scrubbed records) written → (c : List ℕ) → UnopenedOr written c
    → ((others : List Record) → ¬ (IsFileOf c others)) ⊎ IsFileOf c written
