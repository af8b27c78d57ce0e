-- How the maps hold the changes: each by its name, a key of its ticket, date and name for each, and one for each field that it replaces.
use Rattle.std.specs.Prelude.{◌≡◌, ℕ, List, [], ◌∷◌, Bool, true, false, not, ◌&&◌, ◌||◌, if◌then◌else◌, Option, Some, None, map, is_some}
use Rattle.std.specs.List.{list_any}
use Rattle.std.specs.Cmp.Lexicographic.{pointwise}
use Rattle.std.specs.Option.{option_map}
use Rattle.std.specs.Str.{bytes_eq}
use Rattle.std.specs.Ordering.{is_eq, nat_cmp}
use Rattle.std.specs.List.Sorted.{IsStrictlySortedBy}
use Rattle.std.specs.Map.{keys_of}
use Rattle.std.specs.declared.cmp.Ordering.{Ordering}
use Rattle.fsl_order.specs.Names.{bytes_cmp, has}
use Rattle.fsl_order.specs.Rows.{ListsChanged}
use Rattle.fsl_table.specs.Contents.{Contents, value_at, with_entry}
use Rattle.fsl_table.specs.Within.{within_cmp, is_second}
use Rattle.fsl_table.specs.declared.within.Within.{Within}
use Rattle.fsl_table.specs.Undo.{IsAsGood}
use Rattle.fsl_ticket.specs.declared.Fact.{Fact}
use Rattle.fsl_ticket.specs.declared.FieldChange.{FieldChange}
use Rattle.fsl_ticket.specs.declared.entry.Entry.{Entry}
use Rattle.fsl_ticket.specs.declared.field.TicketField.{TicketField}
use Rattle.fsl_ticket.specs.declared.maps.Maps.{Maps}
use Rattle.fsl_ticket.specs.declared.maps.Ways.{Ways}
use Rattle.fsl_ticket.specs.declared.rows.Row.{Row}
use Rattle.fsl_ticket.specs.Seen.{Seen}
use Rattle.fsl_ticket.specs.Tickets.{fields, tickets_row}
use Rattle.fsl_ticket.specs.Newest.{newest_cmp}
use Rattle.fsl_ticket.specs.FieldOrder.{field_cmp}

abbrev pub Lines : Type 0
Lines = List (List ℕ × Entry)

-- a ticket, and the date and name of a change of it
abbrev pub Spot : Type 0
Spot = Within (List ℕ) (ℕ × List ℕ)

abbrev pub spot_cmp : Spot → Spot → Ordering
spot_cmp = within_cmp bytes_cmp newest_cmp

abbrev pub Spots : Type 0
Spots = List (Spot × Unit {0})

abbrev pub spot : List ℕ → ℕ → List ℕ → Spot
spot id date name = record { first = id; second = Some (date, name) }

-- a field of a ticket, and the date and name of a change that replaces it
abbrev pub Setting : Type 0
Setting = Within TicketField (ℕ × List ℕ)

abbrev pub setting_cmp : Setting → Setting → Ordering
setting_cmp = within_cmp field_cmp newest_cmp

abbrev pub Settings : Type 0
Settings = List (Setting × Unit {0})

abbrev pub setting : List ℕ → List ℕ → ℕ × List ℕ → Setting
setting id field p = record { first = record { id = id; field = field }; second = Some p }

abbrev pub fact_of : List ℕ × Entry → Fact
fact_of e = record { name = e.0; date = e.1.date; id = e.1.id; changes = e.1.changes }

abbrev pub entry_of : Fact → Entry
entry_of f = record { date = f.date; id = f.id; changes = f.changes }

abbrev pub facts_of : Lines → List Fact
facts_of es = map fact_of es

-- the changes with one more, or with another in the place of that of its name
abbrev pub with_fact : Fact → Lines → Lines
with_fact f es = with_entry bytes_cmp f.name (entry_of f) es

-- a list has just the ids whose rows differ, ascending, where that change is put
abbrev pub ListsOthers : List (List ℕ) → Lines → Fact → List (List ℕ) → Type 0
ListsOthers configured es f = ListsChanged (tickets_row configured (facts_of es)) (tickets_row configured (facts_of (with_fact f es)))

-- the changes, and the keys of their tickets
pub record Laid : Type 0 where
  pub facts : Contents (List ℕ) Entry
  pub spots : Contents Spot (Unit {0})

-- with the keys of the fields that they replace
pub record Rows : Type 0 where
  pub facts : Contents (List ℕ) Entry
  pub spots : Contents Spot (Unit {0})
  pub sets : Contents Setting (Unit {0})

abbrev pub laid_in : Rows → Laid
laid_in r = record { facts = r.facts; spots = r.spots }

abbrev pub seen_of : List (List ℕ) → Rows → Seen
seen_of fields r = record { fields = fields; facts = facts_of r.facts.entries; spare = r.facts.spare ∷ r.spots.spare ∷ r.sets.spare ∷ [] }

-- whether a J card replaces a field
abbrev pub replaces : FieldChange → List ℕ → Bool
replaces card field = bytes_eq card.field field && not card.append

-- whether J cards replace a field
abbrev pub is_set : List FieldChange → List ℕ → Bool
is_set cards field = list_any (λ card. replaces card field) cards

-- whether a change replaces a field, where it is there
abbrev pub is_set_at : Option Entry → List ℕ → Bool
is_set_at None field = false
is_set_at (Some e) field = is_set e.changes field

-- whether the change is there, of this ticket and at this date
abbrev pub is_of : Option Entry → List ℕ → ℕ → Bool
is_of None id date = false
is_of (Some e) id date = bytes_eq id e.id && is_eq (nat_cmp date e.date)

-- whether the change is there, of this ticket
abbrev pub is_id : Option Entry → List ℕ → Bool
is_id None id = false
is_id (Some e) id = bytes_eq id e.id

-- whether what may be a date and a name is that of a change of this ticket
abbrev pub is_spot : Lines → List ℕ → Option (ℕ × List ℕ) → Bool
is_spot es id None = false
is_spot es id (Some p) = is_of (value_at bytes_cmp p.1 es) id p.0

-- whether what may be a date and a name is that of a change of this ticket that replaces the field
abbrev pub is_setting : Lines → TicketField → Option (ℕ × List ℕ) → Bool
is_setting es f None = false
is_setting es f (Some p) = is_of (value_at bytes_cmp p.1 es) f.id p.0 && is_set_at (value_at bytes_cmp p.1 es) f.field

-- whether a key is there
abbrev pub is_kept_set : Settings → Setting → Bool
is_kept_set ss k = is_some (value_at setting_cmp k ss)

-- whether a key is one of a ticket, and of a date and a name
abbrev pub is_keyed : List ℕ → ℕ × List ℕ → Setting → Bool
is_keyed id p k = bytes_eq k.first.id id && is_second newest_cmp k.second p

-- whether it is that of a field which a J card of this change replaces
abbrev pub is_card_set : List ℕ → ℕ × List ℕ → FieldChange → Setting → Bool
is_card_set id p card k = is_keyed id p k && replaces card k.first.field

-- whether it is that of a field which the J cards of this change replace
abbrev pub is_set_of : List ℕ → ℕ × List ℕ → List FieldChange → Setting → Bool
is_set_of id p cards k = is_keyed id p k && is_set cards k.first.field

-- the keys are those that there were, without some
abbrev pub AreWithout : (Setting → Bool) → Settings → Settings → Type 0
AreWithout out old new = (k : Setting) → is_kept_set new k ≡ (not (out k) && is_kept_set old k)

-- the change of a name
abbrev pub change_at : Lines → List ℕ → Option Fact
change_at es name = option_map (λ e. fact_of (name, e)) (value_at bytes_cmp name es)

-- what may be there before a list
abbrev pub put_before : Option Fact → List Fact → List Fact
put_before None facts = facts
put_before (Some fact) facts = fact ∷ facts

-- the changes of the names beside some dates
abbrev pub changes_at : Lines → List ((ℕ × List ℕ) × Unit {0}) → List Fact
changes_at es [] = []
changes_at es (p ∷ ps) = put_before (change_at es p.0.1) (changes_at es ps)

-- a list, where it has any item
abbrev pub if_any : List Fact → Option (List Fact)
if_any [] = None
if_any (f ∷ facts) = Some (f ∷ facts)

-- whether two rows are the same
abbrev pub is_same : Option (List (List ℕ)) → Option (List (List ℕ)) → Bool
is_same None None = true
is_same None (Some ys) = false
is_same (Some xs) None = false
is_same (Some xs) (Some ys) = pointwise bytes_eq xs ys

-- the row of an id
abbrev pub row_of : List (List ℕ) → Lines → List ℕ → Row
row_of configured es id = record { id = id; values = fields configured (facts_of es) id }

-- the id of a row, where it isn't the same any more
abbrev pub if_other : List (List ℕ) → Lines → Row → Option (List ℕ)
if_other configured es row = if is_same row.values (fields configured (facts_of es) row.id) then None else Some row.id

-- the rows of the ids that another change of a name and an id may touch, ascending
pub record AreTouched (configured : List (List ℕ)) (es : Lines) (name id : List ℕ) (rows : List Row) : Type 0 where
  pub ids : List (List ℕ)
  pub rising : IsStrictlySortedBy bytes_cmp ids
  pub own : (q : List ℕ) → has ids q ≡ (is_id (value_at bytes_cmp name es) q || bytes_eq q id)
  pub are : rows ≡ map (row_of configured es) ids

-- there is a key exactly for each change
abbrev pub AreSpots : Lines → Spots → Type 0
AreSpots es ss = (k : Spot) → is_some (value_at spot_cmp k ss) ≡ is_spot es k.first k.second

pub record IsLaid (r : Laid) : Type 0 where
  pub ordered : IsStrictlySortedBy bytes_cmp (keys_of r.facts.entries)
  pub spots_ordered : IsStrictlySortedBy spot_cmp (keys_of r.spots.entries)
  pub spots : AreSpots r.facts.entries r.spots.entries

-- there is a key exactly for each change and each field that it replaces
pub record AreSets (es : Lines) (ss : Settings) : Type 0 where
  pub ordered : IsStrictlySortedBy setting_cmp (keys_of ss)
  pub are : (k : Setting) → is_kept_set ss k ≡ is_setting es k.first k.second

pub record IsKept (r : Rows) : Type 0 where
  pub laid : IsLaid (laid_in r)
  pub sets : AreSets r.facts.entries r.sets.entries

-- the maps as they are, and as they were where the change began
abbrev pub rows_of : Maps → Rows
rows_of m = record { facts = m.facts.held; spots = m.spots.held; sets = m.sets.held }

abbrev pub rows_before : Maps → Rows
rows_before m = record { facts = m.facts.was; spots = m.spots.was; sets = m.sets.was }

-- where ways back end, and where they begin
abbrev pub starts_of : Ways → Rows
starts_of w = record { facts = w.facts.was; spots = w.spots.was; sets = w.sets.was }

abbrev pub ends_of : Ways → Rows
ends_of w = record { facts = w.facts.held; spots = w.spots.held; sets = w.sets.held }

-- each map is as good
pub record AreAsGood (before now : Rows) : Type 0 where
  pub facts : IsAsGood before.facts now.facts
  pub spots : IsAsGood before.spots now.spots
  pub sets : IsAsGood before.sets now.sets
