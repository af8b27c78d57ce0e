-- Files as they are read from a disk, and why one isn't read.
use Rattle.std.specs.Prelude.{◌≡◌, ℕ, Bool, true, List, length}
use Rattle.std.specs.List.{AllZip}
use Rattle.fsl_name.specs.Name.{name_of}
use Rattle.fsl_order.specs.Causes.{Rose}
use Rattle.fsl_disk.specs.Disk.{DiskState, Quiet}
use Rattle.fsl_cross.specs.declared.Item.{Item}
use Rattle.fsl_repo.specs.Machine.{State, Leaves}
use Rattle.fsl_repo.specs.Replies.{IsSpoilt}
use Rattle.fsl_repo.specs.Whole.{Whole, log_of}
use Rattle.fsl_pull.specs.declared.PullFault.{PullFault}
use Rattle.fsl_pull.specs.declared.PullFault.TheVariants as fault

-- a file as it is read: its name, with bytes that may stand in place of its own. Over a disk that tells its contents and meets the disk model they are its
-- own; over every other disk they have the same name and the same size
pub record IsReadAs (honest : Bool) (file read : List ℕ × List ℕ) : Type 0 where
  pub alike : read.0 ≡ file.0
  pub named : name_of read.1 ≡ name_of file.1
  pub sized : length read.1 ≡ length file.1
  pub same : honest ≡ true → read.1 ≡ file.1

-- files as they are read, one each
abbrev pub AreReadAs : Bool → List (List ℕ × List ℕ) → List (List ℕ × List ℕ) → Type 0
AreReadAs honest files read = AllZip (IsReadAs honest) files read

-- the file of this name isn't read: a call of the disk failed, and its count rose; or the bytes that were read have another name, which is never so over such
-- a disk. Nothing else changes
abbrev pub CantRead : PullFault → State → List ℕ → State → Type 0
CantRead fault.Disk s name left = Rose s.faults left.faults × Leaves s s left
CantRead (fault.Damaged other found) s name left = (other ≡ name) × IsSpoilt s name found × (left ≡ s)
CantRead why s name left = ⊥

-- a repository that was only read is as it was, but for its disk's count of faults
pub record IsOnlyRead {D : Type 0} (disk : D → DiskState) (old new : Whole D) : Type 0 where
  pub state : Leaves old.seen.state old.seen.state new.seen.state
  pub items : new.seen.items ≡ old.seen.items
  pub loaded : new.seen.loaded ≡ old.seen.loaded
  pub log : log_of new ≡ log_of old
  pub quiet : Quiet (disk old.disk) (disk new.disk)
