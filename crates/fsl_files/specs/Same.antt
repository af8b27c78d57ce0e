-- Whether the row of a name is the same with some check-ins as with others.
use Rattle.std.specs.Prelude.{ℕ, List, Bool, true, false, ◌&&◌, ◌==◌, Option, Some, None}
use Rattle.std.specs.Cmp.Lexicographic.{pointwise}
use Rattle.std.specs.Option.{option_eq}
use Rattle.std.specs.Str.{bytes_eq}
use Rattle.fsl_name.specs.Ref.{same_ref}
use Rattle.fsl_files.specs.declared.Change.{Change}
use Rattle.fsl_files.specs.declared.FileRow.{FileRow}
use Rattle.fsl_files.specs.declared.How.{How}
use Rattle.fsl_files.specs.declared.How.TheVariants.{Added, Edited, Deleted}
use Rattle.fsl_files.specs.declared.Perm.{Perm}
use Rattle.fsl_files.specs.declared.Perm.TheVariants.{Plain, Writable, Exec, Symlink}
use Rattle.fsl_files.specs.declared.Listing.{Listing}
use Rattle.fsl_files.specs.declared.Listing.TheVariants.{NotCheckin, NoBaseline, Known}
use Rattle.fsl_files.specs.At.{changes_at, files_at}
use Rattle.fsl_files.specs.Kept.{Lines}

-- a number for each permission
abbrev pub perm_code : Perm → ℕ
perm_code Plain = 0
perm_code Writable = 1
perm_code Exec = 2
perm_code Symlink = 3

-- a number for each way in which a file may differ
abbrev pub how_code : How → ℕ
how_code Added = 0
how_code Edited = 1
how_code Deleted = 2

-- whether two files are one and the same
abbrev pub is_row : FileRow → FileRow → Bool
is_row a b = (bytes_eq a.path b.path && option_eq same_ref a.hash b.hash) && perm_code a.perm == perm_code b.perm

-- whether two changes are
abbrev pub is_change : Change → Change → Bool
is_change a b = bytes_eq a.path b.path && how_code a.how == how_code b.how

-- whether the files of a name are the same
abbrev pub is_same_listing : Listing → Listing → Bool
is_same_listing NotCheckin NotCheckin = true
is_same_listing NoBaseline NoBaseline = true
is_same_listing (Known a) (Known b) = pointwise is_row a b
is_same_listing NotCheckin NoBaseline = false
is_same_listing NotCheckin (Known b) = false
is_same_listing NoBaseline NotCheckin = false
is_same_listing NoBaseline (Known b) = false
is_same_listing (Known a) NotCheckin = false
is_same_listing (Known a) NoBaseline = false

-- whether its changes are
abbrev pub is_same_changes : Option (List Change) → Option (List Change) → Bool
is_same_changes None None = true
is_same_changes None (Some b) = false
is_same_changes (Some a) None = false
is_same_changes (Some a) (Some b) = pointwise is_change a b

-- whether its row is
abbrev pub is_same_row : Lines → Lines → List ℕ → Bool
is_same_row es fs q = is_same_changes (changes_at es q) (changes_at fs q) && is_same_listing (files_at es q) (files_at fs q)
