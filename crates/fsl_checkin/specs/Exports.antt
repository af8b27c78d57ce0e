-- What is had back of a check-in: its tree, what is missing of it, and whether its checksum is that of the tree.
use Rattle.std.specs.Prelude.{◌≡◌, ◌≢◌, ℕ, List, [], ◌∷◌, Option, Some, None, map, find, is_none, option_map, option_and_then}
use Rattle.std.specs.FinMap as map_of
use Rattle.fsl_name.specs.Ref.{own_name}
use Rattle.fsl_name.specs.declared.reference.Ref.{Ref}
use Rattle.fsl_name.specs.declared.reference.Ref.TheVariants.{Own}
use Rattle.fsl_order.specs.Rows.{by_name, named}
use Rattle.fsl_manifest.specs.declared.Manifest.{Manifest}
use Rattle.fsl_files.specs.declared.Fact.{Fact}
use Rattle.fsl_files.specs.declared.FileRow.{FileRow}
use Rattle.fsl_files.specs.declared.Listing.{Listing}
use Rattle.fsl_files.specs.declared.Listing.TheVariants as listing
use Rattle.fsl_files.specs.declared.Perm as row_perm
use Rattle.fsl_files.specs.declared.Perm.TheVariants as row
use Rattle.fsl_files.specs.Files.{files, known}
use Rattle.fsl_blobs.specs.Fold.{HeldSet}
use Rattle.fsl_cross.specs.declared.Item.{Item}
use Rattle.fsl_cross.specs.Facts.{as_manifest}
use Rattle.fsl_cross.specs.Tables.{files_facts, item_set}
use Rattle.fsl_checkin.specs.declared.types.Perm.{Perm}
use Rattle.fsl_checkin.specs.declared.types.Perm.TheVariants.{Plain, Exec, Symlink}
use Rattle.fsl_checkin.specs.declared.types.TreeItem.{TreeItem}
use Rattle.fsl_checkin.specs.declared.answers.Export.{Export}
use Rattle.fsl_checkin.specs.declared.answers.Export.TheVariants as export
use Rattle.fsl_checkin.specs.declared.answers.Verdict.{Verdict}
use Rattle.fsl_checkin.specs.declared.answers.Verdict.TheVariants as verdict
use Rattle.fsl_checkin.specs.Sums.{sum}

-- ---- trees

-- a permission in a tree: `w` counts as none
abbrev pub perm_of : row_perm.Perm → Perm
perm_of row.Plain = Plain
perm_of row.Writable = Plain
perm_of row.Exec = Exec
perm_of row.Symlink = Symlink

-- the bytes that are held under a name
abbrev pub held_at : HeldSet → List ℕ → Option (List ℕ)
held_at held name = option_map (λ a. a.bytes) (map_of.get held name)

-- the name of a file's content, where it isn't foreign
abbrev pub content_name : FileRow → Option (List ℕ)
content_name file = option_and_then own_name file.hash

-- a file with its content, where that is held; under a foreign name nothing is
abbrev pub item_at : HeldSet → FileRow → Option TreeItem
item_at held file =
    option_map (λ bytes. record { path = file.path; perm = perm_of file.perm; bytes = bytes }) (option_and_then (held_at held) (content_name file))

-- the values, where each is there
abbrev pub with_first : {X : Type 0} → Option X → Option (List X) → Option (List X)
with_first None rest = None
with_first (Some x) rest = option_map (λ xs. x ∷ xs) rest

abbrev pub all_there : {X : Type 0} → List (Option X) → Option (List X)
all_there [] = Some []
all_there (o ∷ os) = with_first o (all_there os)

-- the files with their contents, where all are held
abbrev pub items_at : HeldSet → List FileRow → Option (List TreeItem)
items_at held rows = all_there (map (item_at held) rows)

-- the check-ins of a set of artifacts, with their files
abbrev pub checkins : List Item → List Fact
checkins items = by_name (λ f. f.name) (files_facts (item_set items))

-- the tree of a check-in: its files with their contents; undefined where the files are, or a hash is foreign, or a content isn't held
abbrev pub tree : HeldSet → List Item → List ℕ → Option (List TreeItem)
tree held items name = option_and_then (items_at held) (known (files (checkins items) name))

-- ---- what is missing

-- the check-in of a name
abbrev pub checkin_at : List Item → List ℕ → Option Manifest
checkin_at items name = option_and_then (λ item. as_manifest item.artifact) (named (λ item. item.name) items name)

-- the hash of the first file, by path, that is foreign or whose content isn't held
abbrev pub first_missing : HeldSet → List FileRow → Option Ref
first_missing held rows = option_and_then (λ file. file.hash) (find (λ file. is_none (item_at held file)) rows)

-- what the tree of a check-in lacks: the baseline where its files aren't defined, else the first content that is foreign or not held
abbrev pub missing_in : HeldSet → Option (List ℕ) → Listing → Option Ref
missing_in held baseline listing.NotCheckin = None
missing_in held baseline listing.NoBaseline = option_map Own baseline
missing_in held baseline (listing.Known rows) = first_missing held rows

abbrev pub missing : HeldSet → List Item → List ℕ → Option Ref
missing held items name = missing_in held (option_and_then (λ m. m.baseline) (checkin_at items name)) (files (checkins items) name)

-- ---- answers

-- what an export answers: that the name is no check-in's, the tree where it is defined, or what is missing
abbrev pub IsExport : HeldSet → List Item → List ℕ → Export → Type 0
IsExport held items name export.NotCheckin = checkin_at items name ≡ None
IsExport held items name (export.Incomplete m) = (tree held items name ≡ None) × (missing held items name ≡ Some m)
IsExport held items name (export.Tree t) = tree held items name ≡ Some t

-- the checksum that a check-in has: none where it is no check-in, or has no R card
abbrev pub kept_sum : List Item → List ℕ → Option (List ℕ)
kept_sum items name = option_and_then (λ m. m.checksum) (checkin_at items name)

-- what a test of a checksum answers: the checksum of the R card is that of the tree, or another
abbrev pub IsVerdict : HeldSet → List Item → List ℕ → Verdict → Type 0
IsVerdict held items name verdict.NotCheckin = checkin_at items name ≡ None
IsVerdict held items name verdict.NoSum = (checkin_at items name ≢ None) × (kept_sum items name ≡ None)
IsVerdict held items name (verdict.Incomplete m) = (kept_sum items name ≢ None) × (tree held items name ≡ None) × (missing held items name ≡ Some m)
IsVerdict held items name (verdict.Wrong kept found) = (kept_sum items name ≡ Some kept) × (option_map sum (tree held items name) ≡ Some found) × (kept ≢ found)
IsVerdict held items name verdict.Right = (kept_sum items name ≢ None) × (option_map sum (tree held items name) ≡ kept_sum items name)
