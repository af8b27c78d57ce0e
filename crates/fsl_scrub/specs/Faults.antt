-- Why a file isn't written, and what each cause says of the two disks.
use Rattle.std.specs.Prelude.{◌≡◌, ℕ, List, ⊤}
use Rattle.fsl_order.specs.Causes.{Rose}
use Rattle.fsl_blobs.specs.declared.BlobFault.{BlobFault}
use Rattle.fsl_blobs.specs.declared.BlobFault.TheVariants as blob_fault
use Rattle.fsl_repo.specs.Machine.{State}
use Rattle.fsl_repo.specs.Replies.{IsSpoilt}
use Rattle.fsl_scrub.specs.declared.faults.ScrubFault.{ScrubFault}
use Rattle.fsl_scrub.specs.declared.faults.ScrubFault.TheVariants as scrub_fault
use Rattle.fsl_scrub.specs.declared.faults.WriteFault.{WriteFault}
use Rattle.fsl_scrub.specs.declared.faults.WriteFault.TheVariants as write_fault

-- what a cause is to a scrub
abbrev pub fault_of : WriteFault → ScrubFault
fault_of write_fault.Unwritten = scrub_fault.Disk
fault_of write_fault.Unread = scrub_fault.Disk
fault_of (write_fault.Damaged name found) = scrub_fault.Damaged name found
fault_of write_fault.Memory = scrub_fault.Memory

-- why a Blob isn't written, by why its content isn't read
abbrev pub unread_as : List ℕ → BlobFault → WriteFault
unread_as name blob_fault.Absent = write_fault.Memory
unread_as name blob_fault.Disk = write_fault.Unread
unread_as name (blob_fault.Damaged found) = write_fault.Damaged name found
unread_as name blob_fault.Memory = write_fault.Memory

-- a cause that a call over the spare file alone may have
abbrev pub IsOfSpare : WriteFault → Type 0
IsOfSpare write_fault.Unwritten = ⊤
IsOfSpare write_fault.Unread = ⊥
IsOfSpare (write_fault.Damaged name found) = ⊥
IsOfSpare write_fault.Memory = ⊤

-- and one that a call over the repository alone may have
abbrev pub IsOfRead : WriteFault → Type 0
IsOfRead write_fault.Unwritten = ⊥
IsOfRead write_fault.Unread = ⊤
IsOfRead (write_fault.Damaged name found) = ⊤
IsOfRead write_fault.Memory = ⊤

-- what a cause says of the count of faults of the spare file's disk: it rose, or it stayed
abbrev pub SpareFails : WriteFault → ℕ → ℕ → Type 0
SpareFails write_fault.Unwritten before after = Rose before after
SpareFails write_fault.Unread before after = after ≡ before
SpareFails (write_fault.Damaged name found) before after = after ≡ before
SpareFails write_fault.Memory before after = after ≡ before

-- what it says of the repository: the count of its disk rose; or bytes with another name were read for a held one; else the count stayed
abbrev pub ReadFails : WriteFault → State → State → Type 0
ReadFails write_fault.Unwritten old new = new.faults ≡ old.faults
ReadFails write_fault.Unread old new = Rose old.faults new.faults
ReadFails (write_fault.Damaged name found) old new = IsSpoilt old name found × (new.faults ≡ old.faults)
ReadFails write_fault.Memory old new = new.faults ≡ old.faults
