-- How the parts of a check-in are had.
use Rattle.std.specs.Prelude.{◌≡◌, ◌≢◌, ◌++◌, ◌∷◌, [], ℕ, List, Bool, true, false, Option, Some, None, flat_map}
use Rattle.std.specs.List.{AllZip}
use Rattle.std.specs.FinMap as map_of
use Rattle.md5.specs.Md5.{Holds, md5}
use Rattle.md5.specs.declared.Md5.{Md5}
use Rattle.fsl_name.specs.declared.reference.Ref.{Ref}
use Rattle.fsl_files.specs.declared.FileRow.{FileRow}
use Rattle.fsl_repo.specs.Machine.{State, now}
use Rattle.fsl_checkin.specs.declared.contents.KeptCards.{KeptCards}
use Rattle.fsl_checkin.specs.declared.types.TreeItem.{TreeItem}
use Rattle.fsl_checkin.specs.declared.answers.Export.{Export}
use Rattle.fsl_checkin.specs.declared.answers.Export.TheVariants as export
use Rattle.fsl_checkin.specs.declared.answers.Verdict.{Verdict}
use Rattle.fsl_checkin.specs.declared.answers.Verdict.TheVariants as verdict
use Rattle.fsl_checkin.specs.declared.verifying.Total.{Total}
use Rattle.fsl_checkin.specs.declared.verifying.Total.TheVariants as of_files
use Rattle.fsl_checkin.specs.Exports.{content_name, first_missing, item_at, items_at}
use Rattle.fsl_checkin.specs.Reads.{IsReadContent, IsReadFile, Kept}
use Rattle.fsl_checkin.specs.Sums.{summed_file}

abbrev pub as_kept : KeptCards → Kept
as_kept c = record { baseline = c.baseline; checksum = c.checksum }

-- the content of a name as it is read, or none is held under it
abbrev pub IsContentOr : State → List ℕ → Option (List ℕ) → Type 0
IsContentOr s name (Some text) = IsReadContent s.honest (now s).held name text
IsContentOr s name None = map_of.get (now s).held name ≡ None

-- the content of a file as it is read, or none is held
abbrev pub IsFileContent : State → FileRow → Option (List ℕ) → Type 0
IsFileContent s file (Some text) = (name : List ℕ) × (content_name file ≡ Some name) × IsReadContent s.honest (now s).held name text
IsFileContent s file None = item_at (now s).held file ≡ None

-- a file with its content as it is read, or none is held
abbrev pub IsFileRead : State → FileRow → Option TreeItem → Type 0
IsFileRead s file (Some item) = IsReadFile s.honest (now s).held file item
IsFileRead s file None = item_at (now s).held file ≡ None

-- a file with its content as it is read was put behind others, or its content isn't held
abbrev pub IsFileAdded : State → FileRow → List TreeItem → List TreeItem → Bool → Type 0
IsFileAdded s file old new true = (item : TreeItem) × IsReadFile s.honest (now s).held file item × (new ≡ old ++ item ∷ [])
IsFileAdded s file old new false = item_at (now s).held file ≡ None

-- files with their contents as they are read, or the first that is foreign or not held
abbrev pub IsFilled : State → List FileRow → Export → Type 0
IsFilled s rows export.NotCheckin = ⊥
IsFilled s rows (export.Incomplete m) = (items_at (now s).held rows ≡ None) × (first_missing (now s).held rows ≡ Some m)
IsFilled s rows (export.Tree items) = AllZip (IsReadFile s.honest (now s).held) rows items

-- what is answered where this isn't held
abbrev pub IsLackingOf : Option Ref → Export → Type 0
IsLackingOf missing export.NotCheckin = ⊥
IsLackingOf missing (export.Incomplete m) = missing ≡ Some m
IsLackingOf missing (export.Tree items) = ⊥

-- a file with its content as it is read was taken into a checksum, or its content isn't held
abbrev pub IsAbsorbed : State → FileRow → Md5 → Md5 → Bool → Type 0
IsAbsorbed s file old new true = (item : TreeItem) × IsReadFile s.honest (now s).held file item × ((m : List ℕ) → Holds old m → Holds new (m ++ summed_file item))
IsAbsorbed s file old new false = item_at (now s).held file ≡ None

-- what the checksum of files takes, or the first that is foreign or not held
abbrev pub IsSummed : State → List FileRow → Total → Type 0
IsSummed s rows (of_files.Sum sum) = (items : List TreeItem) × AllZip (IsReadFile s.honest (now s).held) rows items × (sum ≡ md5 (flat_map summed_file items))
IsSummed s rows (of_files.Missing missing) = (items_at (now s).held rows ≡ None) × (first_missing (now s).held rows ≡ missing)

-- whether two checksums are the same
abbrev pub IsCompared : List ℕ → List ℕ → Verdict → Type 0
IsCompared kept found verdict.NotCheckin = ⊥
IsCompared kept found verdict.NoSum = ⊥
IsCompared kept found (verdict.Incomplete m) = ⊥
IsCompared kept found (verdict.Wrong k f) = (k ≡ kept) × (f ≡ found) × (kept ≢ found)
IsCompared kept found verdict.Right = kept ≡ found

-- what a test of a checksum answers of a check-in with this checksum and these files
abbrev pub IsJudged : State → List FileRow → List ℕ → Verdict → Type 0
IsJudged s rows kept verdict.NotCheckin = ⊥
IsJudged s rows kept verdict.NoSum = ⊥
IsJudged s rows kept (verdict.Incomplete m) = (items_at (now s).held rows ≡ None) × (first_missing (now s).held rows ≡ Some m)
IsJudged s rows kept (verdict.Wrong k f) = (k ≡ kept) × (kept ≢ f) × ((items : List TreeItem) × AllZip (IsReadFile s.honest (now s).held) rows items × (f ≡ md5 (flat_map summed_file items)))
IsJudged s rows kept verdict.Right = (items : List TreeItem) × AllZip (IsReadFile s.honest (now s).held) rows items × (kept ≡ md5 (flat_map summed_file items))

-- what is answered where this isn't held
abbrev pub IsMissing : Option Ref → Verdict → Type 0
IsMissing missing verdict.NotCheckin = ⊥
IsMissing missing verdict.NoSum = ⊥
IsMissing missing (verdict.Incomplete m) = missing ≡ Some m
IsMissing missing (verdict.Wrong kept found) = ⊥
IsMissing missing verdict.Right = ⊥
