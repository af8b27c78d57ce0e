use Rattle.std.proofs.Common.{◌≡◌, length, take}
use Rattle.std.specs.List.{flat_map}
use Rattle.fsl_record.specs.Records.{field_bytes}
use Rattle.fsl_journal.proofs.places.length_of_fields.Given as goal

abbrev pub invariant-loop-field : goal.invariant-loop-field
invariant-loop-field l = l.sum ≡ length (flat_map field_bytes (take l.field-index l.fields))
