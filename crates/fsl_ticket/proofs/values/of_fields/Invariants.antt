use Rattle.std.proofs.Common.{◌≡◌, take, map}
use Rattle.fsl_ticket.specs.Seen.{value_in}
use Rattle.fsl_ticket.proofs.values.of_fields.Given as goal

-- the fields that were passed have their values
abbrev pub invariant-loop-field : goal.invariant-loop-field
invariant-loop-field l = l.list ≡ map (value_in l.values.entries) (take l.field-index l.fields)
