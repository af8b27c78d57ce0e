-- How many touches one artifact more may cost.
use Rattle.std.specs.Prelude.{◌≡◌, ℕ, ◌+◌, ◌*◌, List, length, filter_map, slice_get, Bool, true, false, not, ◌&&◌, if◌then◌else◌}
use Rattle.std.specs.Prelude.{Option, Some, None, filter, is_none}
use Rattle.std.specs.List.{list_any, list_all}
use Rattle.std.specs.Option.{option_map_or}
use Rattle.fsl_order.specs.TableState.{Change}
use Rattle.fsl_order.specs.Names.{has}
use Rattle.fsl_grammar.specs.declared.TagCard.{TagCard}
use Rattle.fsl_manifest.specs.declared.Manifest.{Manifest}
use Rattle.fsl_artifact.specs.declared.Artifact.{Artifact}
use Rattle.fsl_artifact.specs.declared.Artifact.TheVariants as kind
use Rattle.fsl_artifact.specs.References.{members, references}
use Rattle.fsl_files.specs.declared.Fact as files
use Rattle.fsl_files.specs.Files.{files, known}
use Rattle.fsl_files.specs.Touches.{file_most}
use Rattle.fsl_leaves.specs.declared.Fact as leaves
use Rattle.fsl_cross.specs.declared.Item.{Item}
use Rattle.fsl_cross.specs.Facts.{as_manifest, asserts, tag_cards, files_fact, parent_names}
use Rattle.fsl_cross.specs.Tables.{files_facts, without}
use Rattle.fsl_cross.specs.Mixed.{is_child, is_other_checkin, all_changed}

-- no artifact of the set names it
abbrev pub is_unnamed : List Item → List ℕ → Bool
is_unnamed items name = not (list_any (λ item. has (references item.artifact) name) items)

-- each T card is on the artifact itself
abbrev pub are_own : List TagCard → Bool
are_own cards = list_all (λ card. is_none card.target) cards

-- how many files a check-in has, none where there is none or they aren't defined
abbrev pub file_count : List Item → List ℕ → ℕ
file_count items name = option_map_or length (known (files (filter_map files_fact items) name)) 0

-- what the bound of a check-in counts beside its names: its T and F cards, and the files of its first parent and of its baseline
abbrev pub checkin_size : List Item → Manifest → ℕ
checkin_size items m =
    length m.tags + length m.files + option_map_or (file_count items) (slice_get (parent_names m) 0) 0 + option_map_or (file_count items) m.baseline 0

-- the most touches of the arrival of an artifact in a set, where a bound is stated
abbrev pub touches_of : List Item → List ℕ → Artifact → Option ℕ
touches_of items name kind.Plain = Some 16
touches_of items name (kind.Manifest m) =
    if is_unnamed items name && are_own m.tags then Some (64 * (1 + length (references (kind.Manifest m)) + checkin_size items m)) else None
touches_of items name (kind.Wiki w) = Some (64 * (1 + length (references (kind.Wiki w))))
touches_of items name _ = None

abbrev pub add_touches : List Item → Item → Option ℕ
add_touches items item = touches_of items item.name item.artifact

-- ---- while it comes

-- whether the bound of an artifact holds in a set: only that of a check-in asks something
abbrev pub is_calm : List Item → List ℕ → Artifact → Bool
is_calm items name kind.Plain = true
is_calm items name (kind.Manifest m) = is_unnamed items name && are_own m.tags
is_calm items name (kind.Wiki w) = true
is_calm items name _ = false

-- none of the names passes the test
abbrev pub NoneOf : (List ℕ → Bool) → List (List ℕ) → Type 0
NoneOf test names = (q : List ℕ) → has names q ≡ true → test q ≡ false

-- no other check-in is among those whose tags some changes changed
abbrev pub NoneRetagged : {F : Type 0} → List Item → List ℕ → List (Change F) → Type 0
NoneRetagged items n us = NoneOf (is_other_checkin items n) (all_changed us)

-- none whose row of parentage they changed has the name as its primary parent
abbrev pub NoneLate : {F : Type 0} → List Item → List ℕ → List (Change F) → Type 0
NoneLate items n us = NoneOf (is_child items n) (all_changed us)

-- no check-in with a leaf's fact names it as a parent
abbrev pub IsNoParent : List leaves.Fact → List ℕ → Type 0
IsNoParent facts name = list_any (λ f. has f.parents name) facts ≡ false

-- neither
abbrev pub NoneFollow : {F : Type 0} → List leaves.Fact → List Item → List ℕ → List (Change F) → Type 0
NoneFollow facts items name us = IsNoParent facts name × NoneRetagged items name us

-- the touches and the changes of a table are what they were
abbrev pub Untouched : {U : Type 0} → ℕ → ℕ → List U → List U → Type 0
Untouched old new us vs = (new ≡ old) × (vs ≡ us)

-- whether all T cards of an artifact are on itself
abbrev pub has_own_tags : Artifact → Bool
has_own_tags a = option_map_or (λ cards. are_own cards.1) (tag_cards a) true

-- the most touches of the table of parentage, and of that of leaves
abbrev pub parents_most : Artifact → ℕ
parents_most a = option_map_or (λ m. 6 * (1 + length (parent_names m))) (as_manifest a) 0

-- .. of that of tags
abbrev pub tags_most : Artifact → ℕ
tags_most a = option_map_or (λ cards. 20 * (1 + length (filter asserts cards.1))) (tag_cards a) 0

-- .. of that of files
abbrev pub files_most : List files.Fact → Item → ℕ
files_most facts item = option_map_or (file_most facts) (files_fact item) 0

abbrev pub IsCalm : List Item → Item → Type 0
IsCalm items item = is_calm (without item.name items) item.name item.artifact ≡ true

-- .. of the tables of parentage, tags and leaves
abbrev pub history_most : Artifact → ℕ
history_most a = 2 * parents_most a + tags_most a

-- .. of those of files, pages, tickets, posts and clusters
abbrev pub contents_most : List Item → Item → ℕ
contents_most items item =
    6 * (1 + length (members item.artifact) + length (references item.artifact)) + files_most (files_facts (without item.name items)) item + 4

-- .. of all tables
abbrev pub added_most : List Item → Item → ℕ
added_most items item = history_most item.artifact + contents_most items item + 6
