-- The row of a name, read off the entries.
use Rattle.std.specs.Prelude.{ℕ, List, if◌then◌else◌, Option, Some, None, is_some, option_map, option_and_then}
use Rattle.std.specs.Option.{option_map_or, option_zip}
use Rattle.fsl_order.specs.Names.{bytes_cmp}
use Rattle.fsl_table.specs.Contents.{value_at}
use Rattle.fsl_files.specs.declared.Change.{Change}
use Rattle.fsl_files.specs.declared.FileRow.{FileRow}
use Rattle.fsl_files.specs.declared.Listing.{Listing}
use Rattle.fsl_files.specs.declared.Listing.TheVariants.{NotCheckin, NoBaseline, Known}
use Rattle.fsl_files.specs.declared.entry.Entry.{Entry}
use Rattle.fsl_files.specs.Files.{overlay, known, differences}
use Rattle.fsl_files.specs.Kept.{Lines, parent_at}

-- rows over a baseline
abbrev pub over_entry : List FileRow → Option Entry → Listing
over_entry rows None = NoBaseline
over_entry rows (Some base) = if is_some base.baseline then NoBaseline else Known (overlay base.files rows)

-- the files of a check-in
abbrev pub listing_at : Lines → Entry → Listing
listing_at es e = option_map_or (λ b. over_entry e.files (value_at bytes_cmp b es)) e.baseline (Known e.files)

-- the files of a name
abbrev pub files_at : Lines → List ℕ → Listing
files_at es q = option_map_or (listing_at es) (value_at bytes_cmp q es) NotCheckin

-- the files of the primary parent of a name and its own, where both are defined
abbrev pub both_at : Lines → List ℕ → Option (List FileRow × List FileRow)
both_at es q = option_zip (option_and_then (λ up. known (files_at es up)) (parent_at es q)) (known (files_at es q))

-- the changes of a name against its primary parent
abbrev pub changes_at : Lines → List ℕ → Option (List Change)
changes_at es q = option_map (λ lists. differences lists.0 lists.1) (both_at es q)
