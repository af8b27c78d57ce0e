-- What one more makes of what was gathered.
use Rattle.std.specs.Prelude.{◌≡◌, ◌++◌, ℕ, List, [], Some, None, cond, if◌then◌else◌, unwrap_or}
use Rattle.std.specs.List.{cons_option}
use Rattle.std.specs.Option.{option_or}
use Rattle.std.specs.Str.{bytes_eq}
use Rattle.fsl_order.specs.Maps.{value_at}
use Rattle.fsl_order.specs.Names.{dated_cmp}
use Rattle.fsl_order.specs.Rows.{greater}
use Rattle.fsl_timeline.specs.declared.Row.{Row}
use Rattle.fsl_forum.specs.declared.Fact as posts_of
use Rattle.fsl_blobs.specs.declared.Found.{Found}
use Rattle.fsl_blobs.specs.declared.Found.TheVariants as found_as
use Rattle.fsl_query.specs.Listings.{thread_row, thread_title}

-- a date and a name come under a key; of each key the newest is kept
abbrev pub Takes : List (List ℕ × (ℕ × List ℕ)) → List (List ℕ × (ℕ × List ℕ)) → List ℕ × (ℕ × List ℕ) → Type 0
Takes old new e = (q : List ℕ) → value_at new q ≡ cond (bytes_eq e.0 q) (greater dated_cmp (value_at old q) (Some e.1)) (value_at old q)

-- a name gets a title, unless it has one
abbrev pub NotesTitle : List (List ℕ × List ℕ) → List (List ℕ × List ℕ) → List ℕ → List ℕ → Type 0
NotesTitle old new name title = (q : List ℕ) → value_at new q ≡ option_or (value_at old q) (if bytes_eq name q then Some title else None)

-- the title that stands under a name, none being empty, is that of the thread of the name
abbrev pub IsTitle : List (List ℕ × List ℕ) → List posts_of.Fact → List Row → List ℕ → Type 0
IsTitle titles facts rows name = unwrap_or (value_at titles name) [] ≡ thread_title facts rows name

abbrev pub AreTitles : List (List ℕ × List ℕ) → List posts_of.Fact → List Row → Type 0
AreTitles titles facts rows = (name : List ℕ) → IsTitle titles facts rows name

-- some rows with that of a thread more, where it has a valid post
abbrev pub with_thread : List Row → List posts_of.Fact → List Row → List ℕ → List Row
with_thread list facts rows name = list ++ cons_option (thread_row facts rows name) []

-- what was found, and one name more
abbrev pub and_one : Found → List ℕ → Found
and_one found_as.Nothing name = found_as.One name
and_one (found_as.One other) name = found_as.Several
and_one found_as.Several name = found_as.Several
