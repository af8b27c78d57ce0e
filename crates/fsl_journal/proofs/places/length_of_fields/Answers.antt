use Rattle.std.proofs.Common.{◌+◌, ◌∙◌, length, ap, arith}
use Rattle.std.specs.List.{flat_map}
use Rattle.std.proofs.lemmas.List.{take_all}
use Rattle.fsl_record.specs.Records.{field_bytes}
use Rattle.fsl_journal.proofs.Lengths.{field_step, fields_small}
use Rattle.fsl_journal.proofs.places.length_of_fields.Goals as goal

pub overflow_add-sum-in-loop-field : goal.overflow_add-sum-in-loop-field
overflow_add-sum-in-loop-field c =
    let k = c.loop-field.field-index in
    omega (
      arith,
      field_step c.args.fields.now k c.field-item.result c.loop-field-test.true c.field-item.is,
      fields_small c.args.fields.now (k + 1) c.requires (omega (arith, c.loop-field-test.true)),
      c.loop-field.invariant,
      ap length c.bytes.ensures,
    )

pub loop-field-preserved : goal.loop-field-preserved
loop-field-preserved c =
    let k = c.loop-field.field-index in
    omega (arith, field_step c.args.fields.now k c.field-item.result c.loop-field-test.true c.field-item.is, c.loop-field.invariant, ap length c.bytes.ensures)

pub returns : goal.returns
returns c =
    let all = take_all c.loop-field.field-index c.args.fields.now (omega arith) in record {
      value = c.loop-field.invariant ∙ ap (λ l. length (flat_map field_bytes l)) all;
      small = omega (arith, c.loop-field.invariant, fields_small c.args.fields.now c.loop-field.field-index c.requires (omega arith));
    }
