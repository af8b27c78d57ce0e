-- What a run of a clone says of its status, its output, its file and its dial.
use Rattle.std.specs.Prelude.{[], ◌≡◌, ℕ, ◌⊎◌, List, ◌++◌, Option, Some, None, Result, Ok, Err, codes, decimal}
use Rattle.fsl_outside.specs.Connections.{LinkState}
use Rattle.fsl_outside.specs.Streams.{SinkState}
use Rattle.fsl_disk.specs.Disk.{DiskState, Keeps, Quiet, Told}
use Rattle.fsl_pull.specs.declared.Pulled.{Pulled}
use Rattle.fsl_pull.specs.declared.PullFault.{PullFault}
use Rattle.fsl_pull.specs.declared.PullFault.TheVariants as fault
use Rattle.fsl_pull.specs.Asking.{IsDialCounted}
use Rattle.fsl_pull.specs.CloneCalls.{UnlessDisk, IsClonedOver}
use Rattle.fsl_words.specs.declared.Command.{Command}
use Rattle.fsl_words.specs.declared.Command.TheVariants.{Clone}
use Rattle.fossil.specs.Printed.{Printed, refused, full, too_large, damaged, disk_fault, link_fault, no_memory}
use Rattle.fossil.specs.Outcome.{printed_of, not_repository}
use Rattle.fossil.specs.Run.{IsWritten}
use Rattle.fossil.specs.Acts.{output_of}
use Rattle.fossil.specs.Syncs.{synced, wrong_reply, missing, too_many_rounds, other_project}

-- ---- the text

-- what is printed of a fault, whichever it is; no clone is stopped, none has another project or misses a name, and none reads a content
abbrev pub fault_text : PullFault → Printed
fault_text (fault.NotEmpty len) = refused (codes "file not empty " ++ decimal len)
fault_text (fault.NotRepository at) = printed_of (not_repository at)
fault_text (fault.Project found) = other_project found
fault_text (fault.Stopped faults) = disk_fault
fault_text fault.Link = link_fault
fault_text fault.Disk = disk_fault
fault_text (fault.Peer why) = wrong_reply why
fault_text (fault.TooLarge name size) = too_large name size
fault_text (fault.Full name) = full name
fault_text (fault.Missing name) = missing name
fault_text fault.Rounds = too_many_rounds
fault_text (fault.Damaged name found) = damaged name found
fault_text fault.Memory = no_memory

-- what is printed of what a clone came to
abbrev pub result_printed : Result Pulled PullFault → Printed
result_printed (Ok pulled) = synced pulled.rounds pulled.stored
result_printed (Err why) = fault_text why

-- a fault of a device is told; else the text of the result is, or want of memory in its place
abbrev pub IsResultTold : (Printed → Type 0) → Result Pulled PullFault → Type 0
IsResultTold Tells (Err fault.Link) = Tells link_fault
IsResultTold Tells (Err fault.Disk) = Tells disk_fault
IsResultTold Tells result = Tells (result_printed result) ⊎ Tells no_memory

-- ---- a run

-- a clone without login onto a disk came to one result, which is told
pub record ClonesBy {D : Type 0} (disk : D → DiskState) (server : List ℕ) (fields : List (List ℕ)) (before after : D) (dial : LinkState × LinkState)
    (Tells : Printed → Type 0) : Type 0 where
  pub result : Result Pulled PullFault
  pub clones : IsClonedOver disk server fields None dial.0 dial.1 before after result
  -- no call of the dial failed but that with which the clone ended, and none of the disk
  pub counts : IsDialCounted dial.0 dial.1 result
  pub steady : UnlessDisk ((disk after).faults ≡ (disk before).faults) result
  -- a file with bytes stays as it is, at each moment
  pub untouched : Told (disk before) (λ held. (held ≡ []) ⊎ Quiet (disk before) (disk after))
  pub keeps : Keeps (disk before) (disk after)
  pub tells : IsResultTold Tells result

-- what is told was written
abbrev pub Clones : {D : Type 0} → (D → DiskState) → List ℕ → List (List ℕ) → D → D → LinkState × LinkState → SinkState × SinkState → ℕ → Type 0
Clones disk server fields before after dial out status =
    ClonesBy disk server fields before after dial (λ o. IsWritten o (output_of out) status)

-- what a command came to if it is a clone, at whatever address
abbrev pub ClonesIf : {D : Type 0} → Option Command → (D → DiskState) → D → D → LinkState × LinkState → SinkState × SinkState → ℕ → Type 0
ClonesIf command disk before after dial out status =
    (address server : List ℕ) (fields : List (List ℕ)) → command ≡ Some (Clone address server fields) → Clones disk server fields before after dial out status
