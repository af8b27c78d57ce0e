use Rattle.std.proofs.Common.{◌≡◌, ◌++◌}
use Rattle.std.specs.Prelude.{flat_map, zip}
use Rattle.fsl_query.specs.Lines.{field_line}
use Rattle.fsl_query.proofs.ticket.append_fields.Given as goal

-- the lines so far, and those of the fields that are left
abbrev pub invariant-loop-field : goal.invariant-loop-field
invariant-loop-field l = l.into ++ flat_map field_line (zip l.field-iterator.a.rest.now l.field-iterator.b.rest.now) ≡ l.initial.into ++ flat_map field_line (zip l.fields l.values)
