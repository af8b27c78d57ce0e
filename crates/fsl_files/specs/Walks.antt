-- What a walk over files has left.
use Rattle.std.specs.Prelude.{List, [], ◌∷◌, cond, Option, Some, None}
use Rattle.fsl_files.specs.declared.FileRow.{FileRow}
use Rattle.fsl_files.specs.declared.How.TheVariants.{Edited}
use Rattle.fsl_files.specs.declared.Change.{Change}
use Rattle.fsl_files.specs.declared.Listing.{Listing}
use Rattle.fsl_files.specs.declared.Listing.TheVariants as listing
use Rattle.fsl_files.specs.declared.found.Found.{Found}
use Rattle.fsl_files.specs.declared.found.Found.TheVariants as found
use Rattle.fsl_files.specs.Files.{same_file}

-- a file with those behind it; without it there are none
abbrev pub with_first : Option FileRow → List FileRow → List FileRow
with_first None rest = []
with_first (Some row) rest = row ∷ rest

-- what a file of both lists changes
abbrev pub edits : FileRow → FileRow → List Change
edits before after = cond (same_file before after) [] (record { path = after.path; how = Edited } ∷ [])

-- the files of a name, from where they were found
abbrev pub as_listing : Found → Listing
as_listing found.NotCheckin = listing.NotCheckin
as_listing found.NoBaseline = listing.NoBaseline
as_listing (found.Known rows) = listing.Known rows
