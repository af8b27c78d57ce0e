use Rattle.std.proofs.Common.{◌≡◌, ◌++◌, take}
use Rattle.std.specs.List.{flat_map}
use Rattle.fsl_record.specs.Records.{field_bytes}
use Rattle.fsl_record.proofs.writing.add_fields.Given as goal

abbrev pub invariant-loop-field : goal.invariant-loop-field
invariant-loop-field l = l.into ≡ l.initial.into ++ flat_map field_bytes (take l.field-index l.fields)
