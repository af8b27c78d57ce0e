-- The order of the fields of tickets: fields that compare alike are one.
use Rattle.std.specs.Prelude.{◌≡◌, ℕ, List}
use Rattle.std.proofs.Common.{ap}
use Rattle.std.specs.Ordering.{ordering_then}
use Rattle.std.specs.declared.cmp.Ordering.{Ordering}
use Rattle.std.specs.declared.cmp.Ordering.TheVariants.{Equal}
use Rattle.std.proofs.lemmas.Map.Lookups.{exact_bytes, exact_pairs}
use Rattle.fsl_order.specs.Names.{bytes_cmp}
use Rattle.fsl_ticket.specs.declared.field.TicketField.{TicketField}

-- by the ticket, and then by the name of the field
abbrev pub field_cmp : TicketField → TicketField → Ordering
field_cmp x y = ordering_then (bytes_cmp x.id y.id) (bytes_cmp x.field y.field)

pub exact_field : (x y : TicketField) → field_cmp x y ≡ Equal → x ≡ y
exact_field x y h =
    let f : List ℕ × List ℕ → TicketField = λ p. record { id = p.0; field = p.1 } in
    ap f (exact_pairs bytes_cmp bytes_cmp exact_bytes exact_bytes (x.id, x.field) (y.id, y.field) h)
