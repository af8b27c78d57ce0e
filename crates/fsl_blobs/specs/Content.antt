-- What a content that is asked for is, and what a read that fails leaves.
use Rattle.std.specs.Prelude.{◌≡◌, ◌≢◌, ◌⊎◌, ◌<◌, ◌≤◌, ◌^◌, ℕ, List, length, Some, None, IsSome, Contains}
use Rattle.std.specs.FinMap as map_of
use Rattle.fsl_disk.specs.Disk.{DiskState, IsModelled}
use Rattle.fsl_order.specs.Causes.{Rose}
use Rattle.fsl_name.specs.Name.{name_of}
use Rattle.fsl_journal.specs.Log.{Log}
use Rattle.fsl_journal.specs.Places.{IsAppended, IsPending}
use Rattle.fsl_blobs.specs.declared.BlobFault.{BlobFault}
use Rattle.fsl_blobs.specs.declared.BlobFault.TheVariants as blob_fault
use Rattle.fsl_blobs.specs.Fold.{Held, contents, place, size_in}
use Rattle.fsl_blobs.specs.Seen.{Seen, AreTrue}

-- the records and their places are the journal's
pub record IsOf (log : Log) (b : Seen) : Type 0 where
  pub records : b.records ≡ log.records
  pub starts : b.starts ≡ log.places

-- bytes that may stand in place of a content: they have its name and its size; over a disk that tells its contents and meets the disk model they are the content
pub record StandsFor (disk : DiskState) (content text : List ℕ) : Type 0 where
  pub named : name_of text ≡ name_of content
  pub sized : length text ≡ length content
  pub same : IsModelled disk → text ≡ content

-- what is answered for a name: it is held, and these bytes stand for its content; over a disk that meets the model they are it where what is kept in memory came from such a disk
pub record IsContentOf (disk : DiskState) (b : Seen) (name text : List ℕ) : Type 0 where
  pub artifact : Held
  pub held : map_of.get (contents b.records).held name ≡ Some artifact
  pub named : name_of text ≡ name
  pub sized : length text ≡ length artifact.bytes
  pub same : IsModelled disk → AreTrue b → text ≡ artifact.bytes

-- the bytes that were read are as many as the content has, and have this other name; never over a disk that tells its contents and meets the disk model
pub record IsDamaged (disk : DiskState) (name : List ℕ) (size : ℕ) (found : List ℕ) : Type 0 where
  pub bytes : List ℕ
  pub sized : length bytes ≡ size
  pub named : found ≡ name_of bytes
  pub other : found ≢ name
  pub never : IsModelled disk → ⊥

-- a fault: no device was called, or the disk's count rose, or bytes with another name were read
abbrev pub ContentFailed : BlobFault → Seen → List ℕ → DiskState → DiskState → Type 0
ContentFailed blob_fault.Absent b name before after = (map_of.get (contents b.records).held name ≡ None) × (after.faults ≡ before.faults)
ContentFailed blob_fault.Disk b name before after = Rose before.faults after.faults
ContentFailed (blob_fault.Damaged found) b name before after = IsDamaged before name (size_in (contents b.records).held name) found × (after.faults ≡ before.faults)
ContentFailed blob_fault.Memory b name before after = after.faults ≡ before.faults

-- ---- the parts of a read

-- an appended content with this place, size and name
pub record IsStored (log : Log) (at size : ℕ) (name : List ℕ) : Type 0 where
  pub content : List ℕ
  pub appended : IsAppended log at content
  pub sized : length content ≡ size
  pub named : name ≡ name_of content

-- what a read of it answers
pub record IsReadOf (disk : DiskState) (log : Log) (at size : ℕ) (name text : List ℕ) : Type 0 where
  pub named : name_of text ≡ name
  pub sized : length text ≡ size
  pub same : IsModelled disk → (content : List ℕ) → IsAppended log at content → length content ≡ size → text ≡ content

abbrev pub ReadFailed : BlobFault → List ℕ → ℕ → DiskState → DiskState → Type 0
ReadFailed blob_fault.Absent name size before after = ⊥
ReadFailed blob_fault.Disk name size before after = Rose before.faults after.faults
ReadFailed (blob_fault.Damaged found) name size before after = IsDamaged before name size found × (after.faults ≡ before.faults)
ReadFailed blob_fault.Memory name size before after = after.faults ≡ before.faults

-- the record that added a held name's artifact isn't committed
pub record AwaitsCommit (log : Log) (b : Seen) (name : List ℕ) : Type 0 where
  pub n : ℕ
  pub held : IsSome (map_of.get (contents b.records).held name)
  pub added : place b.records name ≡ Some n
  pub behind : log.stable < n

-- a content with this place, size and name that isn't committed
pub record IsPendingAt (log : Log) (at size : ℕ) (name : List ℕ) : Type 0 where
  pub content : List ℕ
  pub pending : IsPending log at content
  pub sized : length content ≡ size
  pub named : name ≡ name_of content

-- each content that is kept now was kept before, or is this one, which isn't large, kept for this record
abbrev pub KeepsOrHas : List (ℕ × List ℕ) → ℕ → List ℕ → List (ℕ × List ℕ) → Type 0
KeepsOrHas old place text new = (e : ℕ × List ℕ) → Contains new e → Contains old e ⊎ ((e ≡ (place, text)) × (length text ≤ 2 ^ 20))
