-- What is answered to a question.
use Rattle.std.specs.Prelude.{◌≡◌, ◌≢◌, ◌⊎◌, ℕ, Bool, false, List, length, Option, Some, None, Result, Ok, Err, ⊤}
use Rattle.std.specs.FinMap as map_of
use Rattle.fsl_name.specs.Name.{name_of}
use Rattle.fsl_order.specs.Causes.{Rose}
use Rattle.fsl_disk.specs.Disk.{DiskState}
use Rattle.fsl_record.specs.declared.Record.{Record}
use Rattle.fsl_blobs.specs.Fold.{Held, Contents, contents}
use Rattle.fsl_blobs.specs.declared.BlobFault.{BlobFault}
use Rattle.fsl_blobs.specs.declared.BlobFault.TheVariants as blob_fault
use Rattle.fsl_blobs.specs.Held.{matching, found}
use Rattle.fsl_blobs.specs.declared.Found.{Found}
use Rattle.fsl_blobs.specs.declared.Found.TheVariants as found_as
use Rattle.fsl_words.specs.declared.Question.{Question}
use Rattle.fsl_words.specs.declared.Question.TheVariants.{Cat, Receipt}
use Rattle.fsl_query.specs.declared.Refused.{Refused}
use Rattle.fsl_query.specs.declared.Refused.TheVariants.{NoArtifact}
use Rattle.fsl_query.specs.declared.QueryFault.{QueryFault}
use Rattle.fsl_query.specs.declared.QueryFault.TheVariants.{Refused as RefusedFault, Disk, Damaged, Memory}
use Rattle.fsl_cross.specs.declared.Item.{Item}
use Rattle.fsl_repo.specs.Machine.{State, now}
use Rattle.fsl_repo.specs.Opening.{HasItems}
use Rattle.fsl_repo.specs.Whole.{is_modelled}
use Rattle.fsl_query.specs.Reports.{IsReport}

-- the value that is due, or the refusal; `Memory` has no cause. What reads no content meets no fault of the disk
abbrev pub IsAnswer : {X : Type 0} → Result X Refused → Result X QueryFault → Type 0
IsAnswer due (Ok value) = due ≡ Ok value
IsAnswer due (Err (RefusedFault refused)) = due ≡ Err refused
IsAnswer due (Err Disk) = ⊥
IsAnswer due (Err (Damaged name found)) = ⊥
IsAnswer due (Err Memory) = ⊤

-- a held content has this name, and bytes that were read for it have another; never over a disk that tells its contents and meets the disk model
pub record IsSpoiltIn (honest : Bool) (c : Contents) (name found : List ℕ) : Type 0 where
  pub artifact : Held
  pub held : map_of.get c.held name ≡ Some artifact
  pub bytes : List ℕ
  pub sized : length bytes ≡ length artifact.bytes
  pub named : found ≡ name_of bytes
  pub other : found ≢ name
  pub never : honest ≡ false

-- the prefix of the name whose content a question asks for
abbrev pub prefix_of : Question → Option (List ℕ)
prefix_of (Cat prefix) = Some prefix
prefix_of question = None

-- the one name that was found, if one was
abbrev pub one_of : Found → Option (List ℕ)
one_of (found_as.One name) = Some name
one_of other = None

-- the name whose content a question reads: the one that the prefix of `cat` finds
abbrev pub content_asked : Contents → Question → Option (List ℕ)
content_asked c (Cat prefix) = one_of (found (matching c.held prefix))
content_asked c question = None

-- the report on the question or its refusal, by the items that the held artifacts are. Where a content is read, the disk may fail, so that its count of faults rises from the one to the other, or that content may be damaged; by every other answer the count is the same. `Memory` has no cause
abbrev pub IsReported : Bool → Contents → Question → ℕ → ℕ → Result (List ℕ) QueryFault → Type 0
IsReported honest c question before after (Ok text) = IsReport honest c question (Ok text) × (after ≡ before)
IsReported honest c question before after (Err (RefusedFault refused)) = IsReport honest c question (Err refused) × (after ≡ before)
IsReported honest c question before after (Err Disk) = (name : List ℕ) × (content_asked c question ≡ Some name) × Rose before after
IsReported honest c question before after (Err (Damaged name found)) = (content_asked c question ≡ Some name) × IsSpoiltIn honest c name found × (after ≡ before)
IsReported honest c question before after (Err Memory) = after ≡ before

-- what was read of a file for a question: for `cat` and `receipt`, which are told by names, no more than these, and for each other the items that the held artifacts are
abbrev pub IsReadFor : Question → Contents → Option (List Item) → Type 0
IsReadFor (Cat prefix) c items = items ≡ None
IsReadFor (Receipt prefix) c items = items ≡ None
IsReadFor question c items = HasItems c items

-- by the records that were loaded from a disk, and the disk that is left
abbrev pub IsReportedOn : DiskState → List Record → Question → DiskState → Result (List ℕ) QueryFault → Type 0
IsReportedOn before records question after result = IsReported (is_modelled before) (contents records) question before.faults after.faults result

-- why a content isn't told: it isn't held, the disk failed, the content has another name, or there was no memory
abbrev pub IsContentUntold : List ℕ → List ℕ → BlobFault → QueryFault → Type 0
IsContentUntold prefix name blob_fault.Absent result = (result ≡ RefusedFault (NoArtifact prefix)) ⊎ (result ≡ Memory)
IsContentUntold prefix name blob_fault.Disk result = result ≡ Disk
IsContentUntold prefix name (blob_fault.Damaged found) result = result ≡ Damaged name found
IsContentUntold prefix name blob_fault.Memory result = result ≡ Memory

-- by the state of a repository, and the one that is left
abbrev pub IsReportedIn : State → Question → State → Result (List ℕ) QueryFault → Type 0
IsReportedIn old question new result = IsReported old.honest (now old) question old.faults new.faults result
