-- A content that is asked for at a state, and why it isn't given.
use Rattle.std.specs.Prelude.{◌≡◌, ℕ, true, List, length, Some, None}
use Rattle.std.specs.FinMap as map_of
use Rattle.fsl_name.specs.Name.{name_of}
use Rattle.fsl_order.specs.Causes.{Rose}
use Rattle.fsl_blobs.specs.declared.BlobFault.{BlobFault}
use Rattle.fsl_blobs.specs.declared.BlobFault.TheVariants as blob_fault
use Rattle.fsl_blobs.specs.Fold.{Held}
use Rattle.fsl_repo.specs.Machine.{State, now}
use Rattle.fsl_repo.specs.Replies.{IsSpoilt}

-- what is answered for a name: it is held, and these bytes stand for its content. Over a disk that tells its contents and meets the disk model they are it; over every other disk they have its name and its size
pub record IsContentNow (s : State) (name text : List ℕ) : Type 0 where
  pub artifact : Held
  pub held : map_of.get (now s).held name ≡ Some artifact
  pub named : name_of text ≡ name
  pub sized : length text ≡ length artifact.bytes
  pub same : s.honest ≡ true → text ≡ artifact.bytes

-- the name isn't held; the disk's count rose; the bytes that were read have another name, which is never so over such a disk; or there was no memory
abbrev pub ContentFails : BlobFault → State → List ℕ → State → Type 0
ContentFails blob_fault.Absent old name new = (map_of.get (now old).held name ≡ None) × (new.faults ≡ old.faults)
ContentFails blob_fault.Disk old name new = Rose old.faults new.faults
ContentFails (blob_fault.Damaged found) old name new = IsSpoilt old name found × (new.faults ≡ old.faults)
ContentFails blob_fault.Memory old name new = new.faults ≡ old.faults
