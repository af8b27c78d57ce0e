-- What contracts see of the table, and of a change of it.
use Rattle.std.specs.Prelude.{◌≡◌, ℕ, List, [], Option, cond, fold, filter, flat_map}
use Rattle.std.specs.Option.{unwrap_or}
use Rattle.std.specs.Map.{lookup}
use Rattle.std.specs.BTreeMap.{is_at}
use Rattle.std.specs.Str.{bytes_eq}
use Rattle.fsl_order.specs.Names.{bytes_cmp}
use Rattle.fsl_order.specs.TableState.{AreAtMost}
use Rattle.fsl_ticket.specs.declared.Fact.{Fact}
use Rattle.fsl_ticket.specs.declared.FieldChange.{FieldChange}
use Rattle.fsl_ticket.specs.Tickets.{after}

-- the configured fields, the changes by name, and the room that each map inside has to spare
pub record Seen : Type 0 where
  pub fields : List (List ℕ)
  pub facts : List Fact
  pub spare : List ℕ

-- a table is as before: it has the same fields and the same facts, and no less room
pub record IsAsBefore (before now : Seen) : Type 0 where
  pub fields : now.fields ≡ before.fields
  pub facts : now.facts ≡ before.facts
  pub spare : AreAtMost before.spare now.spare

-- a change of a table: what it was, what it became, and the ids whose rows differ
pub record Change : Type 0 where
  pub before : Seen
  pub after : Seen
  pub changed : List (List ℕ)

-- what a map has at a field
abbrev pub look : {X : Type 0} → List ℕ → List (List ℕ × X) → Option X
look field entries = lookup (is_at (bytes_cmp field)) entries

-- the value that a map has of a field, empty where it has none
abbrev pub value_in : List (List ℕ × List ℕ) → List ℕ → List ℕ
value_in entries field = unwrap_or (look field entries) []

-- what a J card makes of the value of a field
abbrev pub taken : FieldChange → List ℕ → List ℕ → List ℕ
taken card field value = cond (bytes_eq card.field field) (after value card) value

-- what changes in their order make of the value of a field
abbrev pub value_after : List ℕ → List Fact → List ℕ → List ℕ
value_after value facts field = fold after value (filter (λ card. bytes_eq card.field field) (flat_map (λ f. f.changes) facts))

-- the value that changes in their order give a field
abbrev pub value_from : List Fact → List ℕ → List ℕ
value_from facts field = value_after [] facts field
