use Rattle.std.proofs.Common.{◌≡◌, ◌-◌, ◌≤◌, ◌++◌, length}
use Rattle.std.specs.List.{flat_map}
use Rattle.fsl_record.specs.Records.{field_bytes, AreFields}
use Rattle.fsl_record.proofs.reading.read_fields.Given as goal

abbrev pub invariant-fields : goal.invariant-fields
invariant-fields l = record { layout : l.bytes ≡ flat_map field_bytes l.fields.items ++ l.rest; counted : length l.fields.items ≤ l.count; fit : AreFields l.fields.items }

abbrev pub decreases-fields : goal.decreases-fields
decreases-fields l = l.count - length l.fields.items
