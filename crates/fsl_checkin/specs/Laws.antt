-- Laws of trees and of their check-ins.
use Rattle.std.specs.Prelude.{◌≡◌, ◌⊎◌, ℕ, ◌^◌, ◌<◌, Bool, true, List, length, Option, Some, IsTrue}
use Rattle.std.specs.List.{AllByRecursion, list_all}
use Rattle.fsl_name.specs.Name.{name_of}
use Rattle.fsl_order.specs.Rows.{rises}
use Rattle.fsl_text.specs.Paths.{path_ok}
use Rattle.fsl_card.specs.Cards.{IsTextOf}
use Rattle.fsl_manifest.specs.Manifests.{IsManifest}
use Rattle.fsl_record.specs.declared.Record.{Record}
use Rattle.fsl_record.specs.Records.{AreRecords}
use Rattle.fsl_blobs.specs.Fold.{HeldSet, contents}
use Rattle.fsl_cross.specs.declared.Item.{Item}
use Rattle.fsl_repo.specs.Machine.{AreItems}
use Rattle.fsl_checkin.specs.declared.types.TreeItem.{TreeItem}
use Rattle.fsl_checkin.specs.declared.answers.Export.{Export}
use Rattle.fsl_checkin.specs.declared.answers.Export.TheVariants.{Tree}
use Rattle.fsl_checkin.specs.declared.answers.Verdict.{Verdict}
use Rattle.fsl_checkin.specs.declared.answers.Verdict.TheVariants.{Right}
use Rattle.fsl_checkin.specs.Trees.{IsBadItem, IsTreeText, paths, tree_text}
use Rattle.fsl_checkin.specs.Sums.{sum}
use Rattle.fsl_checkin.specs.Checkins.{checkin_of}
use Rattle.fsl_checkin.specs.Exports.{IsExport, IsVerdict, held_at, kept_sum, tree}
use Rattle.fsl_checkin.specs.Reads.{IsExportRead, IsVerdictRead}

-- a text is one tree at most
abbrev pub IsOneTree : Type 0
IsOneTree = (text : List ℕ) → length text < 2 ^ 64 → (a b : List TreeItem) → IsTreeText text a → IsTreeText text b → a ≡ b

-- a text with a bad item is no tree
abbrev pub BadIsNoTree : Type 0
BadIsNoTree = (text : List ℕ) → length text < 2 ^ 64 → (number : ℕ) → IsBadItem text number → (items : List TreeItem) → ¬ (IsTreeText text items)

-- and has one number of its first
abbrev pub BadIsOne : Type 0
BadIsOne = (text : List ℕ) → length text < 2 ^ 64 → (a b : ℕ) → IsBadItem text a → IsBadItem text b → a ≡ b

-- what is written of a tree whose paths are good and rise is that tree
abbrev pub WrittenReadsBack : Type 0
WrittenReadsBack = (items : List TreeItem) → IsTrue (list_all path_ok (paths items)) → IsTrue (rises (paths items)) → IsTreeText (tree_text items) items

-- the contents of a tree are held under their names
abbrev pub AreHeld : HeldSet → List TreeItem → Type 0
AreHeld held t = AllByRecursion (λ item. held_at held (name_of item.bytes) ≡ Some item.bytes) t

-- a tree that was checked in comes back: where its contents and the text of its check-in are held, the tree of that check-in is this one, and its checksum is that of the tree
pub record IsHad (held : HeldSet) (items : List Item) (name : List ℕ) (t : List TreeItem) : Type 0 where
  pub same : tree held items name ≡ Some t
  pub kept : kept_sum items name ≡ Some (sum t)

abbrev pub TreesComeBack : Type 0
TreesComeBack =
    (held : HeldSet) (items : List Item) (t : List TreeItem) (parent : Option (List ℕ)) (user comment : List ℕ) (date : ℕ) (text name : List ℕ)
    → AreItems held items → IsTextOf IsManifest text (checkin_of t parent user comment date) → held_at held name ≡ Some text → AreHeld held t → IsHad held items name t

-- an export has one answer: what is held and the name decide it
abbrev pub ExportIsOne : Type 0
ExportIsOne = (held : HeldSet) (items : List Item) (name : List ℕ) → AreItems held items → (a b : Export) → IsExport held items name a → IsExport held items name b → a ≡ b

-- and a test of a checksum has one
abbrev pub VerdictIsOne : Type 0
VerdictIsOne = (held : HeldSet) (items : List Item) (name : List ℕ) (a b : Verdict) → IsVerdict held items name a → IsVerdict held items name b → a ≡ b

-- over an honest disk, which tells its contents and meets the disk model, what an export reads is what is held
abbrev pub ExportIsDue : Type 0
ExportIsDue = (held : HeldSet) (items : List Item) (name : List ℕ) → AreItems held items → (e : Export) → IsExportRead true held items name e → IsExport held items name e

-- and so is what a test of a checksum reads
abbrev pub VerdictIsDue : Type 0
VerdictIsDue = (held : HeldSet) (items : List Item) (name : List ℕ) → AreItems held items → (v : Verdict) → IsVerdictRead true held items name v → IsVerdict held items name v

-- a text is a tree, or has a first bad item
abbrev pub IsSomeTree : Type 0
IsSomeTree = (text : List ℕ) → length text < 2 ^ 64 → ((items : List TreeItem) × IsTreeText text items) ⊎ ((number : ℕ) × IsBadItem text number)

-- an export has an answer, whatever the disk
abbrev pub HasExport : Type 0
HasExport =
    (honest : Bool) (records : List Record) → AreRecords records → (items : List Item) → AreItems (contents records).held items → (name : List ℕ)
    → (e : Export) × IsExportRead honest (contents records).held items name e

-- and a test of a checksum has one
abbrev pub HasVerdict : Type 0
HasVerdict =
    (honest : Bool) (records : List Record) → AreRecords records → (items : List Item) → AreItems (contents records).held items → (name : List ℕ)
    → (v : Verdict) × IsVerdictRead honest (contents records).held items name v

-- what is answered of a tree that was checked in: an export gives this tree alone, and a test of its checksum that it is right
pub record IsAnswered (held : HeldSet) (items : List Item) (name : List ℕ) (t : List TreeItem) : Type 0 where
  pub exported : (e : Export) → IsExport held items name e → e ≡ Tree t
  pub verified : (v : Verdict) → IsVerdict held items name v → v ≡ Right

abbrev pub HadIsAnswered : Type 0
HadIsAnswered = (held : HeldSet) (items : List Item) (name : List ℕ) (t : List TreeItem) → AreItems held items → IsHad held items name t → IsAnswered held items name t
