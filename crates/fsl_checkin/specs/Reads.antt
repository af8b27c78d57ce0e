-- Check-ins as their contents are read from a disk, and why they can't be.
use Rattle.std.specs.Prelude.{◌≡◌, ◌≢◌, ◌⊎◌, ℕ, Bool, true, cond, is_none, IsTrue, List, [], ◌∷◌, length, filter_map, Option, Some, None, unwrap_or, option_and_then}
use Rattle.std.specs.List.{AllZip}
use Rattle.fsl_name.specs.Name.{name_of}
use Rattle.fsl_name.specs.declared.reference.Ref.{Ref}
use Rattle.fsl_name.specs.declared.reference.Ref.TheVariants.{Own}
use Rattle.fsl_order.specs.Causes.{Rose}
use Rattle.fsl_order.specs.Names.{has}
use Rattle.fsl_manifest.specs.declared.Manifest.{Manifest}
use Rattle.fsl_artifact.specs.declared.Artifact.{Artifact}
use Rattle.fsl_artifact.specs.Kind.{IsKind}
use Rattle.fsl_files.specs.declared.FileRow.{FileRow}
use Rattle.fsl_files.specs.declared.Listing.{Listing}
use Rattle.fsl_files.specs.declared.Listing.TheVariants as listing
use Rattle.fsl_files.specs.Files.{files, known}
use Rattle.fsl_disk.specs.Disk.{DiskState, Quiet}
use Rattle.fsl_blobs.specs.Fold.{HeldSet}
use Rattle.fsl_cross.specs.declared.Item.{Item}
use Rattle.fsl_cross.specs.Facts.{as_manifest}
use Rattle.fsl_repo.specs.Machine.{State, Leaves, now}
use Rattle.fsl_repo.specs.Replies.{IsSpoilt}
use Rattle.fsl_repo.specs.Whole.{Seen, Whole, log_of}
use Rattle.fsl_checkin.specs.declared.types.TreeItem.{TreeItem}
use Rattle.fsl_checkin.specs.declared.answers.Export.{Export}
use Rattle.fsl_checkin.specs.declared.answers.Export.TheVariants as export
use Rattle.fsl_checkin.specs.declared.answers.Verdict.{Verdict}
use Rattle.fsl_checkin.specs.declared.answers.Verdict.TheVariants as verdict
use Rattle.fsl_checkin.specs.declared.answers.ExportFault.{ExportFault}
use Rattle.fsl_checkin.specs.declared.answers.ExportFault.TheVariants as fault
use Rattle.fsl_checkin.specs.Exports.{checkin_at, checkins, content_name, first_missing, held_at, item_at, perm_of, tree}
use Rattle.fsl_checkin.specs.Sums.{sum}

-- ---- contents that are read

-- a content that is held under a name, as it is read: over an honest disk, which tells its contents and meets the disk model, it is the held one; over every other disk it has its name and its size
pub record IsReadContent (honest : Bool) (held : HeldSet) (name text : List ℕ) : Type 0 where
  pub content : List ℕ
  pub is_held : held_at held name ≡ Some content
  pub named : name_of text ≡ name
  pub sized : length text ≡ length content
  pub same : honest ≡ true → text ≡ content

-- a file with its content, as that is read
pub record IsReadFile (honest : Bool) (held : HeldSet) (file : FileRow) (item : TreeItem) : Type 0 where
  pub name : List ℕ
  pub own : content_name file ≡ Some name
  pub path : item.path ≡ file.path
  pub perm : item.perm ≡ perm_of file.perm
  pub content : IsReadContent honest held name item.bytes

-- the tree of a check-in as it is read: its files, each with its content
abbrev pub IsReadTree : Bool → HeldSet → List Item → List ℕ → List TreeItem → Type 0
IsReadTree honest held items name t =
    (rows : List FileRow) × (known (files (checkins items) name) ≡ Some rows) × AllZip (IsReadFile honest held) rows t

-- the B and the R card of a check-in
pub record Kept : Type 0 where
  pub baseline : Option (List ℕ)
  pub checksum : Option (List ℕ)

-- those of a check-in, and none without one
abbrev pub kept_by : Option Manifest → Kept
kept_by m = record { baseline = option_and_then (λ m. m.baseline) m; checksum = option_and_then (λ m. m.checksum) m }

-- those of what the bytes are
abbrev pub AreCardsOf : List ℕ → Kept → Type 0
AreCardsOf bytes kept = (a : Artifact) × IsKind bytes a × (kept ≡ kept_by (as_manifest a))

-- those of a check-in, as its text is read
abbrev pub AreCardsRead : Bool → HeldSet → List ℕ → Kept → Type 0
AreCardsRead honest held name kept = (text : List ℕ) × IsReadContent honest held name text × AreCardsOf text kept

-- the checksum of its R card, as its text is read
abbrev pub IsSumRead : Bool → HeldSet → List ℕ → Option (List ℕ) → Type 0
IsSumRead honest held name checksum = (kept : Kept) × AreCardsRead honest held name kept × (checksum ≡ kept.checksum)

-- it has an R card
abbrev pub HasSumRead : Bool → HeldSet → List ℕ → Type 0
HasSumRead honest held name = (kept : List ℕ) × IsSumRead honest held name (Some kept)

-- ---- answers

-- the baseline of a check-in, or its own name where its text is read as one that has none; over an honest disk no text of a check-in without files is
abbrev pub baseline_or : List ℕ → Kept → List ℕ
baseline_or name kept = unwrap_or kept.baseline name

-- what is missing of a check-in with such files, as its text is read
abbrev pub IsMissingIn : Bool → HeldSet → List ℕ → Listing → Ref → Type 0
IsMissingIn honest held name listing.NotCheckin m = ⊥
IsMissingIn honest held name listing.NoBaseline m = (kept : Kept) × AreCardsRead honest held name kept × (m ≡ Own (baseline_or name kept))
IsMissingIn honest held name (listing.Known rows) m = first_missing held rows ≡ Some m

abbrev pub IsMissingRead : Bool → HeldSet → List Item → List ℕ → Ref → Type 0
IsMissingRead honest held items name m = IsMissingIn honest held name (files (checkins items) name) m

-- the tree of a check-in isn't defined, and this is missing
abbrev pub IsLacking : Bool → HeldSet → List Item → List ℕ → Ref → Type 0
IsLacking honest held items name m = (tree held items name ≡ None) × IsMissingRead honest held items name m

-- what an export answers, whatever the disk is
abbrev pub IsExportRead : Bool → HeldSet → List Item → List ℕ → Export → Type 0
IsExportRead honest held items name export.NotCheckin = checkin_at items name ≡ None
IsExportRead honest held items name (export.Incomplete m) = IsLacking honest held items name m
IsExportRead honest held items name (export.Tree t) = IsReadTree honest held items name t

-- what a test of a checksum answers, whatever the disk is: the checksum of the R card as it is read is that of the tree as it is read, or another
abbrev pub IsVerdictRead : Bool → HeldSet → List Item → List ℕ → Verdict → Type 0
IsVerdictRead honest held items name verdict.NotCheckin = checkin_at items name ≡ None
IsVerdictRead honest held items name verdict.NoSum = (checkin_at items name ≢ None) × IsSumRead honest held name None
IsVerdictRead honest held items name (verdict.Incomplete m) = HasSumRead honest held name × IsLacking honest held items name m
IsVerdictRead honest held items name (verdict.Wrong kept found) =
    IsSumRead honest held name (Some kept) × ((t : List TreeItem) × IsReadTree honest held items name t × (found ≡ sum t)) × (kept ≢ found)
IsVerdictRead honest held items name verdict.Right = (t : List TreeItem) × IsReadTree honest held items name t × IsSumRead honest held name (Some (sum t))

-- by what is seen of a repository
abbrev pub ExportRead : Seen → List ℕ → Export → Type 0
ExportRead seen name e = IsExportRead seen.state.honest (now seen.state).held seen.items name e

abbrev pub VerdictRead : Seen → List ℕ → Verdict → Type 0
VerdictRead seen name v = IsVerdictRead seen.state.honest (now seen.state).held seen.items name v

-- ---- faults

-- the names of the contents of files
abbrev pub content_names : List FileRow → List (List ℕ)
content_names rows = filter_map content_name rows

-- the files up to the first one that is foreign or whose content isn't held, with that one
abbrev pub up_to_missing : HeldSet → List FileRow → List FileRow
up_to_missing held [] = []
up_to_missing held (row ∷ rows) = row ∷ cond (is_none (item_at held row)) [] (up_to_missing held rows)

-- the contents of files that are asked for: none behind the first that is missing
abbrev pub asked_files : HeldSet → List FileRow → List (List ℕ)
asked_files held rows = content_names (up_to_missing held rows)

-- the contents that an export asks for: those of the files; and where these aren't defined that of the check-in, which names the baseline
abbrev pub asked_in : HeldSet → List ℕ → Listing → List (List ℕ)
asked_in held name listing.NotCheckin = []
asked_in held name listing.NoBaseline = name ∷ []
asked_in held name (listing.Known rows) = asked_files held rows

abbrev pub asked : HeldSet → List Item → List ℕ → List (List ℕ)
asked held items name = asked_in held name (files (checkins items) name)

abbrev pub asked_of : Seen → List ℕ → List (List ℕ)
asked_of seen name = asked (now seen.state).held seen.items name

-- a test of a checksum asks for this content: for that of the check-in, which has the R card; and where this is there, as the text is read, for those of the files
abbrev pub IsTestedIn : Bool → HeldSet → List ℕ → Listing → List ℕ → Type 0
IsTestedIn honest held name listing.NotCheckin content = ⊥
IsTestedIn honest held name listing.NoBaseline content = content ≡ name
IsTestedIn honest held name (listing.Known rows) content = (content ≡ name) ⊎ (HasSumRead honest held name × IsTrue (has (asked_files held rows) content))

abbrev pub IsTested : Bool → HeldSet → List Item → List ℕ → List ℕ → Type 0
IsTested honest held items name content = IsTestedIn honest held name (files (checkins items) name) content

-- why there is no answer that asks for such contents: a call of the disk failed, and its count rose; the bytes that were read for one of them have another name, which is never so over an honest disk; or there was no memory
abbrev pub AskFails : (List ℕ → Type 0) → ExportFault → State → State → Type 0
AskFails IsAsked fault.Disk old new = (name : List ℕ) × IsAsked name × Rose old.faults new.faults
AskFails IsAsked (fault.Damaged name found) old new = IsAsked name × IsSpoilt old name found × (new.faults ≡ old.faults)
AskFails IsAsked fault.Memory old new = new.faults ≡ old.faults

-- none that asks for these contents
abbrev pub ExportFails : ExportFault → State → List (List ℕ) → State → Type 0
ExportFails why old names new = AskFails (λ name. IsTrue (has names name)) why old new

-- none that asks for those of files
abbrev pub FilesFail : ExportFault → State → List FileRow → State → Type 0
FilesFail why old rows new = ExportFails why old (asked_files (now old).held rows) new

-- no test of the checksum of a check-in
abbrev pub VerifyFails : ExportFault → Seen → List ℕ → State → Type 0
VerifyFails why seen name new = AskFails (IsTested seen.state.honest (now seen.state).held seen.items name) why seen.state new

-- a repository that was only read is as it was, but for its disk's count of faults
pub record IsOnlyRead {D : Type 0} (disk : D → DiskState) (old new : Whole D) : Type 0 where
  pub state : Leaves old.seen.state old.seen.state new.seen.state
  pub items : new.seen.items ≡ old.seen.items
  pub loaded : new.seen.loaded ≡ old.seen.loaded
  pub log : log_of new ≡ log_of old
  pub quiet : Quiet (disk old.disk) (disk new.disk)
