use Rattle.std.proofs.Common.{take}
use Rattle.fsl_record.specs.Records.{AreFields}
use Rattle.fsl_record.proofs.fields.are_fields.Given as goal

abbrev pub invariant-loop-place : goal.invariant-loop-place
invariant-loop-place l = AreFields (take l.place l.fields)
