-- The changes of a ticket from the newest down: what they make of a field, and whether one more makes another value of it.
use Rattle.std.specs.Prelude.{◌≡◌, ℕ, List, [], ◌∷◌, Bool, true, false, ◌&&◌, ◌||◌, not, if◌then◌else◌, Option, Some, None, map, filter, fold}
use Rattle.std.specs.List.{list_any}
use Rattle.std.specs.Option.{option_map}
use Rattle.std.specs.Str.{bytes_eq}
use Rattle.std.specs.Ordering.{is_lt}
use Rattle.fsl_order.specs.Names.{bytes_cmp}
use Rattle.fsl_table.specs.Contents.{value_at, entries_after}
use Rattle.fsl_table.specs.Within.{within}
use Rattle.fsl_table.proofs.Walk.{from}
use Rattle.fsl_ticket.specs.declared.Fact.{Fact}
use Rattle.fsl_ticket.specs.declared.FieldChange.{FieldChange}
use Rattle.fsl_ticket.specs.declared.entry.Entry.{Entry}
use Rattle.fsl_ticket.specs.Tickets.{after}
use Rattle.fsl_ticket.specs.Newest.{newest_cmp}
use Rattle.fsl_ticket.specs.Seen.{value_in}
use Rattle.fsl_ticket.specs.Kept.{Lines, Rows, Spots, is_set_at}

-- dates and names, the newest first
abbrev pub Down : Type 0
Down = List ((ℕ × List ℕ) × Unit {0})

-- what J cards make of the value of a field
abbrev pub made : List FieldChange → List ℕ → List ℕ → List ℕ
made cards field value = fold after value (filter (λ card. bytes_eq card.field field) cards)

-- what a change makes of the value of a field, where it is there
abbrev pub made_at : Option Entry → List ℕ → List ℕ → List ℕ
made_at None field value = value
made_at (Some e) field value = made e.changes field value

-- the same of the change of a name
abbrev pub made_by : Lines → List ℕ → List ℕ → List ℕ → List ℕ
made_by es name field value = made_at (value_at bytes_cmp name es) field value

-- whether a walk ends with a change: where that replaces the field, if one is given
abbrev pub ends_at : Option Entry → Option (List ℕ) → Bool
ends_at e None = false
ends_at e (Some field) = is_set_at e field

-- the changes of a ticket from one of them down, nothing where none is given
abbrev pub down_from : Option (ℕ × List ℕ) → List ℕ → Spots → Down
down_from p id spots = from newest_cmp (option_map (λ b. (b, tt)) p) (within bytes_cmp id spots)

-- where a walk goes on behind a change
abbrev pub walk_on : Lines → Option (List ℕ) → ℕ × List ℕ → List ℕ → Spots → Down
walk_on es field p id spots = if ends_at (value_at bytes_cmp p.1 es) field then [] else entries_after newest_cmp p (within bytes_cmp id spots)

abbrev pub names_of : Down → List (List ℕ)
names_of ws = map (λ w. w.0.1) ws

-- the names down to the end of a walk
abbrev pub names_until : Lines → Option (List ℕ) → Down → List (List ℕ)
names_until es field [] = []
names_until es field (w ∷ ws) = w.0.1 ∷ (if ends_at (value_at bytes_cmp w.0.1 es) field then [] else names_until es field ws)

-- the value that changes give a field, where the newest stands first
abbrev pub value_down : Lines → List (List ℕ) → List ℕ → List ℕ
value_down es [] field = []
value_down es (name ∷ names) field = made_at (value_at bytes_cmp name es) field (value_down es names field)

-- these are the values that a walk gives
abbrev pub AreWalked : Lines → Option (List ℕ) → Down → List (List ℕ × List ℕ) → Type 0
AreWalked es field down values = (q : List ℕ) → value_in values q ≡ value_down es (names_until es field down) q

-- whether a change that is newer than this replaces the field
abbrev pub is_masked : Lines → ℕ × List ℕ → List ℕ → Down → Bool
is_masked es p field [] = false
is_masked es p field (w ∷ ws) = if is_lt (newest_cmp w.0 p) then (is_set_at (value_at bytes_cmp w.0.1 es) field || is_masked es p field ws) else false

-- whether what may be there is newer than a date and a name
abbrev pub is_newer : ℕ × List ℕ → Option ((ℕ × List ℕ) × Unit {0}) → Bool
is_newer p None = false
is_newer p (Some w) = is_lt (newest_cmp w.0 p)

-- the value of a field below a date and a name
abbrev pub value_below : Lines → ℕ × List ℕ → List ℕ → Down → List ℕ
value_below es p field ws = value_down es (names_of (entries_after newest_cmp p ws)) field

-- whether J cards at a date and a name make another value of a field: they change it there, and no newer change replaces it
abbrev pub is_other : Lines → List FieldChange → ℕ × List ℕ → Down → List ℕ → Bool
is_other es cards p ws field = not (is_masked es p field ws) && not (bytes_eq (value_below es p field ws) (made cards field (value_below es p field ws)))

-- whether a change more makes another row of its ticket
abbrev pub is_row_other : List (List ℕ) → Lines → List FieldChange → ℕ × List ℕ → Down → Bool
is_row_other configured es cards p [] = true
is_row_other configured es cards p (w ∷ ws) = list_any (is_other es cards p (w ∷ ws)) configured

-- the changes of the ticket of a change
abbrev pub ticket_of : Rows → Fact → Down
ticket_of r f = within bytes_cmp f.id r.spots.entries

-- whether a change that isn't there makes another value of a field
abbrev pub is_other_by : Rows → Fact → List ℕ → Bool
is_other_by r f = is_other r.facts.entries f.changes (f.date, f.name) (ticket_of r f)

-- whether it makes another row of its ticket
abbrev pub is_row_other_by : List (List ℕ) → Rows → Fact → Bool
is_row_other_by configured r f = is_row_other configured r.facts.entries f.changes (f.date, f.name) (ticket_of r f)
