use Rattle.std.proofs.Common.{arith}
use Rattle.fsl_record.proofs.FieldLists.{fields_none, fields_not, fields_more}
use Rattle.fsl_record.proofs.fields.are_fields.Goals as goal

pub loop-place-init : goal.loop-place-init
loop-place-init c = fields_none

pub returns-then-not-is_new_field : goal.returns-then-not-is_new_field
returns-then-not-is_new_field c =
    (λ none. absurd cc, λ fit. absurd (fields_not c.args.fields.now c.loop-place.place c.index-fields-place.result (omega arith) c.index-fields-place.is (cc) fit))

pub loop-place-preserved : goal.loop-place-preserved
loop-place-preserved c = fields_more c.args.fields.now c.loop-place.place c.index-fields-place.result (omega arith) (omega arith) c.index-fields-place.is (cc) c.loop-place.invariant
