use Rattle.std.proofs.Common.{◌≡◌, ◌++◌, take}
use Rattle.std.specs.Prelude.{flat_map}
use Rattle.fsl_query.specs.Lines.{configured_line}
use Rattle.fsl_query.proofs.info.append_fields.Given as goal

-- the fields that were passed have their lines
abbrev pub invariant-loop-field : goal.invariant-loop-field
invariant-loop-field l = l.into ≡ l.initial.into ++ flat_map configured_line (take l.field-index l.fields)
