-- How the tables hold the facts: each by its name, a key for each among the versions of what it is a version of, and a key for each attachment among those of its target.
use Rattle.std.specs.Prelude.{◌≡◌, ◌+◌, ℕ, List, [], ◌∷◌, Bool, true, false, not, ◌&&◌, ◌||◌, if◌then◌else◌, Option, Some, None, map, filter}
use Rattle.std.specs.Option.{option_and_then, option_map, option_map_or, option_or}
use mathlib.Core.Bool.{beq}
use Rattle.std.specs.Str.{bytes_eq}
use Rattle.std.specs.Ordering.{is_eq, on}
use Rattle.std.specs.List.Sorted.{IsStrictlySortedBy}
use Rattle.std.specs.Map.{keys_of}
use Rattle.std.specs.declared.cmp.Ordering.{Ordering}
use Rattle.fsl_order.specs.Maps as maps
use Rattle.fsl_order.specs.Names.{bytes_cmp, dated_cmp, has}
use Rattle.fsl_order.specs.Rows.{ListsChanged, greatest}
use Rattle.fsl_order.specs.TableState.{TableState}
use Rattle.fsl_table.specs.Contents.{Contents, value_at, with_entry, without_key, first_of}
use Rattle.fsl_table.specs.Within.{within_cmp, within, above}
use Rattle.fsl_table.specs.Placed.{ArePlaced, key_of}
use Rattle.fsl_table.specs.declared.within.Within.{Within}
use Rattle.fsl_table.specs.Undo.{IsAsGood}
use Rattle.fsl_wiki.specs.declared.Page.{Page}
use Rattle.fsl_wiki.specs.declared.Note.{Note}
use Rattle.fsl_wiki.specs.declared.Attached.{Attached}
use Rattle.fsl_wiki.specs.declared.Fact.{Fact}
use Rattle.fsl_wiki.specs.declared.Fact.TheVariants as fact
use Rattle.fsl_wiki.specs.declared.group.Group.{Group}
use Rattle.fsl_wiki.specs.declared.entry.Entry.{Entry}
use Rattle.fsl_wiki.specs.declared.entry.Row.{Row}
use Rattle.fsl_wiki.specs.declared.entry.Entry.TheVariants as entry
use Rattle.fsl_wiki.specs.declared.maps.Maps.{Maps}
use Rattle.fsl_wiki.specs.declared.maps.Ways.{Ways}
use Rattle.fsl_wiki.specs.declared.rows.Known.{Known}
use Rattle.fsl_wiki.specs.Groups.{group_cmp, page_group, note_group, file_group}
use Rattle.fsl_wiki.specs.Late.{late_cmp}
use Rattle.fsl_wiki.specs.Pages.{fact_name, as_page, as_attached, pages_row}

-- technotes by date and name
abbrev pub note_cmp : Note → Note → Ordering
note_cmp = on (λ n. (n.date, n.name)) dated_cmp

abbrev pub Lines : Type 0
Lines = List (List ℕ × Entry)

abbrev pub Spot : Type 0
Spot = Within Group (ℕ × List ℕ)

abbrev pub spot_cmp : Spot → Spot → Ordering
spot_cmp = within_cmp group_cmp late_cmp

abbrev pub Spots : Type 0
Spots = List (Spot × Unit {0})

abbrev pub Target : Type 0
Target = Within (List ℕ) (ℕ × List ℕ)

abbrev pub target_cmp : Target → Target → Ordering
target_cmp = within_cmp bytes_cmp late_cmp

abbrev pub Targets : Type 0
Targets = List (Target × Unit {0})

-- ---- facts and entries

-- the fact of a name and an entry
abbrev pub fact_at : List ℕ → Entry → Fact
fact_at name (entry.Page e) = fact.Page (record { name = name; date = e.date; title = e.title; user = e.user })
fact_at name (entry.Note e) = fact.Note (record { name = name; date = e.date; time = e.time; id = e.id })
fact_at name (entry.Attached e) = fact.Attached (record { name = name; date = e.date; target = e.target; file = e.file; sourced = e.sourced })

abbrev pub fact_of : List ℕ × Entry → Fact
fact_of e = fact_at e.0 e.1

abbrev pub facts_of : Lines → List Fact
facts_of es = map fact_of es

-- what a fact has beside its name
abbrev pub entry_of : Fact → Entry
entry_of (fact.Page p) = entry.Page (record { date = p.date; title = p.title; user = p.user })
entry_of (fact.Note n) = entry.Note (record { date = n.date; time = n.time; id = n.id })
entry_of (fact.Attached a) = entry.Attached (record { date = a.date; target = a.target; file = a.file; sourced = a.sourced })

-- what an entry is a version of
abbrev pub group_in : Entry → Group
group_in (entry.Page e) = page_group e.title
group_in (entry.Note e) = note_group e.id
group_in (entry.Attached e) = file_group e.target e.file

abbrev pub date_in : Entry → ℕ
date_in (entry.Page e) = e.date
date_in (entry.Note e) = e.date
date_in (entry.Attached e) = e.date

-- what a fact is a version of
abbrev pub group_of : Fact → Group
group_of (fact.Page p) = page_group p.title
group_of (fact.Note n) = note_group n.id
group_of (fact.Attached a) = file_group a.target a.file

abbrev pub date_of : Fact → ℕ
date_of (fact.Page p) = p.date
date_of (fact.Note n) = n.date
date_of (fact.Attached a) = a.date

abbrev pub place_of : Fact → ℕ × List ℕ
place_of f = (date_of f, fact_name f)

abbrev pub item : List ℕ × Entry → Option Fact
item e = Some (fact_of e)

abbrev pub file_item : List ℕ × Entry → Option Attached
file_item e = as_attached (fact_of e)

abbrev pub file_place : Attached → ℕ × List ℕ
file_place a = (a.date, a.name)

abbrev pub page_in : List ℕ → Entry → Option Page
page_in name e = as_page (fact_at name e)

abbrev pub attached_in : List ℕ → Entry → Option Attached
attached_in name e = as_attached (fact_at name e)

-- the name in a place
abbrev pub name_in : ℕ × List ℕ → List ℕ
name_in p = p.1

abbrev pub page_at : Lines → List ℕ → Option Page
page_at es name = option_and_then (page_in name) (value_at bytes_cmp name es)

abbrev pub file_at : Lines → List ℕ → Option Attached
file_at es name = option_and_then (attached_in name) (value_at bytes_cmp name es)

-- an attachment, where it is there and of this file
abbrev pub first_file : Option Attached → List ℕ → Option Attached
first_file None file = None
first_file (Some a) file = if bytes_eq a.file file then Some a else None

-- an attachment came to the first ones, where it is there and its file had none
abbrev pub AddsFirst : Option Attached → List (List ℕ × Attached) → List (List ℕ × Attached) → Type 0
AddsFirst attached old new = (file : List ℕ) → maps.value_at new file ≡ option_or (maps.value_at old file) (first_file attached file)

-- of the attachments at some places the first one of a file
abbrev pub first_of_file : Lines → List ℕ → List (ℕ × List ℕ) → Option Attached
first_of_file es file [] = None
first_of_file es file (p ∷ ps) = option_or (first_file (file_at es p.1) file) (first_of_file es file ps)

-- ---- keys

abbrev pub spot_of : List ℕ → Entry → Spot
spot_of name e = record { first = group_in e; second = Some (date_in e, name) }

abbrev pub target_of : List ℕ → Entry → Option Target
target_of name (entry.Page e) = None
target_of name (entry.Note e) = None
target_of name (entry.Attached e) = Some (record { first = e.target; second = Some (e.date, name) })

-- the keys of the entry of a name
abbrev pub spot_at : Lines → List ℕ → Option Spot
spot_at es name = option_map (spot_of name) (value_at bytes_cmp name es)

abbrev pub target_at : Lines → List ℕ → Option Target
target_at es name = option_and_then (target_of name) (value_at bytes_cmp name es)

-- with a key, where there is one
abbrev pub with_target : Option Target → Targets → Targets
with_target None ts = ts
with_target (Some k) ts = with_entry target_cmp k tt ts

abbrev pub without_target : Option Target → Targets → Targets
without_target None ts = ts
without_target (Some k) ts = without_key target_cmp k ts

abbrev pub without_spot : Option Spot → Spots → Spots
without_spot None ss = ss
without_spot (Some k) ss = without_key spot_cmp k ss

abbrev pub is_page : Entry → Bool
is_page (entry.Page e) = true
is_page (entry.Note e) = false
is_page (entry.Attached e) = false

-- the key before all versions of something
abbrev pub before_all : Group → Spot
before_all g = record { first = g; second = None }

abbrev pub race_in : Entry → Option Spot
race_in (entry.Page e) = None
race_in (entry.Note e) = Some (before_all (note_group e.id))
race_in (entry.Attached e) = Some (before_all (file_group e.target e.file))

abbrev pub AreSpots : Lines → Spots → Type 0
AreSpots es ss = ArePlaced group_cmp late_cmp name_in (key_of item group_of place_of) es ss

abbrev pub AreTargets : Lines → Targets → Type 0
AreTargets es ts = ArePlaced bytes_cmp late_cmp name_in (key_of file_item (λ a. a.target) file_place) es ts

-- ---- which version is the current one

-- the latest version
abbrev pub latest : List Fact → Group → Option Fact
latest facts g = greatest (on place_of dated_cmp) (filter (λ f. is_eq (group_cmp g (group_of f))) facts)

-- whether what may be there has this name
abbrev pub is_called : List ℕ → Option Fact → Bool
is_called name o = option_map_or (λ f. bytes_eq (fact_name f) name) o false

-- whether the version of a name is the current one
abbrev pub leads : Lines → List ℕ → Option Spot → Bool
leads es name None = false
leads es name (Some k) = is_called name (latest (facts_of es) k.first)

-- the place of the first version, where there is one
abbrev pub top : Spots → Option Spot → Option (ℕ × List ℕ)
top ss None = None
top ss (Some k) = option_map (λ e. e.0) (first_of (above late_cmp k.second (within group_cmp k.first ss)))

-- whether what may be a place has a name
abbrev pub is_placed : List ℕ → Option (ℕ × List ℕ) → Bool
is_placed name None = false
is_placed name (Some p) = bytes_eq name p.1

-- the race of the entry of a name
abbrev pub race_at : Lines → List ℕ → Option Spot
race_at es name = option_and_then race_in (value_at bytes_cmp name es)

-- ---- rows

abbrev pub no_row : Row
no_row = record { page = false; note = false; attached = false }

abbrev pub row_in : Entry → Bool → Row
row_in (entry.Page e) leads = record { page = true; note = false; attached = false }
row_in (entry.Note e) leads = record { page = false; note = leads; attached = false }
row_in (entry.Attached e) leads = record { page = false; note = false; attached = leads }

-- the row of what may be there, where it is told which one is current
abbrev pub row_by : Option Entry → (Option Spot → Bool) → Row
row_by None leads = no_row
row_by (Some e) leads = row_in e (leads (race_in e))

abbrev pub same_row : Row → Row → Bool
same_row a b = beq a.page b.page && (beq a.note b.note && beq a.attached b.attached)

-- whether a name is in one list and not in the other
abbrev pub in_one : Bool → Bool → Bool
in_one before after = (after && not before) || (before && not after)

-- ---- the table

pub record Rows : Type 0 where
  pub facts : Contents (List ℕ) Entry
  pub spots : Contents Spot (Unit {0})
  pub targets : Contents Target (Unit {0})

abbrev pub held_of : Rows → TableState Fact
held_of r = record { facts = facts_of r.facts.entries; spare = r.facts.spare ∷ r.spots.spare ∷ r.targets.spare ∷ [] }

pub record IsKept (r : Rows) : Type 0 where
  pub ordered : IsStrictlySortedBy bytes_cmp (keys_of r.facts.entries)
  pub spots_ordered : IsStrictlySortedBy spot_cmp (keys_of r.spots.entries)
  pub spots : AreSpots r.facts.entries r.spots.entries
  pub targets_ordered : IsStrictlySortedBy target_cmp (keys_of r.targets.entries)
  pub targets : AreTargets r.facts.entries r.targets.entries

-- the maps as they are, as they were where the change began, and the steps from there
abbrev pub rows_of : Maps → Rows
rows_of m = record { facts = m.facts.held; spots = m.spots.held; targets = m.targets.held }

abbrev pub rows_before : Maps → Rows
rows_before m = record { facts = m.facts.was; spots = m.spots.was; targets = m.targets.was }

abbrev pub steps_back : Maps → ℕ
steps_back m = m.facts.back + m.spots.back + m.targets.back

-- where ways back end, and where they begin
abbrev pub starts_of : Ways → Rows
starts_of w = record { facts = w.facts.was; spots = w.spots.was; targets = w.targets.was }

abbrev pub ends_of : Ways → Rows
ends_of w = record { facts = w.facts.held; spots = w.spots.held; targets = w.targets.held }

-- each map is as good
pub record AreAsGood (before now : Rows) : Type 0 where
  pub facts : IsAsGood before.facts now.facts
  pub spots : IsAsGood before.spots now.spots
  pub targets : IsAsGood before.targets now.targets

-- ---- which names change

-- the row of a name, by the keys
abbrev pub row_at : Rows → List ℕ → Row
row_at r name = row_by (value_at bytes_cmp name r.facts.entries) (λ race. is_placed name (top r.spots.entries race))

-- whether a name, other than this one, is that of a first version
abbrev pub is_first : Spots → List ℕ → Option Spot → List ℕ → Bool
is_first ss but race q = not (bytes_eq q but) && is_placed q (top ss race)

-- and of one of two first versions
abbrev pub is_either : Spots → List ℕ → Option Spot → Option Spot → List ℕ → Bool
is_either ss but race old_race q = not (bytes_eq q but) && (is_placed q (top ss race) || is_placed q (top ss old_race))

-- whether a name is in a list and not in the other
abbrev pub is_only : List (List ℕ) → List (List ℕ) → List ℕ → Bool
is_only list other q = has list q && not (has other q)

-- a name, if it is wanted, and those that are in one of two lists alone came to the old ones
abbrev pub AddsDiffering : List ℕ → Bool → List (List ℕ) → List (List ℕ) → List (List ℕ) → List (List ℕ) → Type 0
AddsDiffering name wanted before after old new = (q : List ℕ) → has new q ≡ ((bytes_eq q name && wanted) || (is_only after before q || (is_only before after q || has old q)))

-- these are the names whose rows differ from those that are known
abbrev pub AreSince : Known → Rows → List ℕ → List (List ℕ) → Type 0
AreSince known r name list = (q : List ℕ) → has list q ≡ ((bytes_eq q name && not (same_row known.row (row_at r name))) || in_one (has known.leaders.keys q) (is_either r.spots.entries name known.race known.old_race q))

-- these are the names whose rows differ once the entry is put
abbrev pub ListsPut : List ℕ → Entry → Lines → List (List ℕ) → Type 0
ListsPut name entry es changed = ListsChanged (pages_row (facts_of es)) (pages_row (facts_of (with_entry bytes_cmp name entry es))) changed
