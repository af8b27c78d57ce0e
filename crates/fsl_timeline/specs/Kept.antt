-- How the tables hold the rows: each by its name, and a place for the time and name of each.
use Rattle.std.specs.Prelude.{◌≡◌, ◌+◌, ℕ, List, [], ◌∷◌, Bool, false, not, ◌&&◌, ◌==◌, Option, Some, None, map, is_some}
use Rattle.std.specs.Option.{option_map}
use Rattle.std.specs.Str.{bytes_eq}
use Rattle.std.specs.Ordering.{is_eq, nat_cmp}
use Rattle.std.specs.List.Sorted.{IsStrictlySortedBy}
use Rattle.std.specs.Map.{keys_of}
use Rattle.fsl_order.specs.Names.{bytes_cmp, latest_first}
use Rattle.fsl_order.specs.Rows.{ListsChanged}
use Rattle.fsl_order.specs.TableState.{TableState}
use Rattle.fsl_table.specs.Contents.{Contents, value_at, with_entry}
use Rattle.fsl_table.specs.Undo.{IsAsGood}
use Rattle.fsl_timeline.specs.declared.Row.{Row}
use Rattle.fsl_timeline.specs.declared.RowKind.{RowKind}
use Rattle.fsl_timeline.specs.declared.RowKind.TheVariants.{Checkin, Wiki, Ticket, Note, Forum, Tag}
use Rattle.fsl_timeline.specs.declared.entry.Entry.{Entry}
use Rattle.fsl_timeline.specs.declared.maps.Maps.{Maps}
use Rattle.fsl_timeline.specs.declared.maps.Ways.{Ways}
use Rattle.fsl_timeline.specs.Timeline.{timeline_row}

abbrev pub Lines : Type 0
Lines = List (List ℕ × Entry)

abbrev pub Places : Type 0
Places = List ((ℕ × List ℕ) × Unit {0})

abbrev pub row_of : List ℕ × Entry → Row
row_of e = record { time = e.1.time; name = e.0; kind = e.1.kind; user = e.1.user; text = e.1.text }

abbrev pub rows_of : Lines → List Row
rows_of es = map row_of es

-- what is kept of a row, and the rows with it
abbrev pub entry_of : Row → Entry
entry_of row = record { time = row.time; kind = row.kind; user = row.user; text = row.text }

abbrev pub with_row : Row → Lines → Lines
with_row row es = with_entry bytes_cmp row.name (entry_of row) es

pub record Rows : Type 0 where
  pub rows : Contents (List ℕ) Entry
  pub places : Contents (ℕ × List ℕ) (Unit {0})

abbrev pub held_of : Rows → TableState Row
held_of r = record { facts = rows_of r.rows.entries; spare = r.rows.spare ∷ r.places.spare ∷ [] }

-- whether the row is there, at this time
abbrev pub is_time : Option Entry → ℕ → Bool
is_time None t = false
is_time (Some e) t = is_eq (nat_cmp e.time t)

-- the places without that of a name
abbrev pub AreWithout : Contents (List ℕ) Entry → List ℕ → Contents (ℕ × List ℕ) (Unit {0}) → Contents (ℕ × List ℕ) (Unit {0}) → Type 0
AreWithout rows name old new = (k : ℕ × List ℕ) → is_some (value_at latest_first k new.entries) ≡ (not (bytes_eq k.1 name && is_time (value_at bytes_cmp name rows.entries) k.0) && is_some (value_at latest_first k old.entries))

-- the names whose rows differ
abbrev pub AreChanged : Lines → Lines → List (List ℕ) → Type 0
AreChanged es fs names = ListsChanged (timeline_row (rows_of es)) (timeline_row (rows_of fs)) names

-- the row of a name
abbrev pub row_at : Lines → List ℕ → Option Row
row_at es name = option_map (λ e. row_of (name, e)) (value_at bytes_cmp name es)

-- what may be there before a list
abbrev pub put_before : Option Row → List Row → List Row
put_before None rows = rows
put_before (Some row) rows = row ∷ rows

-- the rows of the names at some places
abbrev pub rows_at : Lines → Places → List Row
rows_at es [] = []
rows_at es (p ∷ ps) = put_before (row_at es p.0.1) (rows_at es ps)

-- a number for each kind
abbrev pub kind_number : RowKind → ℕ
kind_number Checkin = 0
kind_number Wiki = 1
kind_number Ticket = 2
kind_number Note = 3
kind_number Forum = 4
kind_number Tag = 5

-- whether a row is an entry
abbrev pub is_same : Entry → Row → Bool
is_same e row = ((e.time == row.time) && (kind_number e.kind == kind_number row.kind)) && (bytes_eq e.user row.user && bytes_eq e.text row.text)

-- whether a row is the one that is there
abbrev pub stands : Option Entry → Row → Bool
stands None row = false
stands (Some e) row = is_same e row

pub record IsKept (r : Rows) : Type 0 where
  pub ordered : IsStrictlySortedBy bytes_cmp (keys_of r.rows.entries)
  pub places_ordered : IsStrictlySortedBy latest_first (keys_of r.places.entries)
  pub places : (k : ℕ × List ℕ) → is_some (value_at latest_first k r.places.entries) ≡ is_time (value_at bytes_cmp k.1 r.rows.entries) k.0

-- the maps as they are, as they were where the change began, and the steps from there
abbrev pub rows_in : Maps → Rows
rows_in m = record { rows = m.rows.held; places = m.places.held }

abbrev pub rows_before : Maps → Rows
rows_before m = record { rows = m.rows.was; places = m.places.was }

abbrev pub steps_back : Maps → ℕ
steps_back m = m.rows.back + m.places.back

-- where ways back end, and where they begin
abbrev pub starts_of : Ways → Rows
starts_of w = record { rows = w.rows.was; places = w.places.was }

abbrev pub ends_of : Ways → Rows
ends_of w = record { rows = w.rows.held; places = w.places.held }

-- each map is as good
pub record AreAsGood (before now : Rows) : Type 0 where
  pub rows : IsAsGood before.rows now.rows
  pub places : IsAsGood before.places now.places
