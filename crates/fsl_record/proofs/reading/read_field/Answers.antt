use Rattle.fsl_record.proofs.Cuts.{field_missing, field_cut}
use Rattle.fsl_record.proofs.Fronts.{field_read}
use Rattle.fsl_record.proofs.FieldLists.{fields_push_new}
use Rattle.fsl_record.proofs.reading.read_field.Goals as goal

pub returns-in_default-clause-fault : goal.returns-in_default-clause-fault
returns-in_default-clause-fault c = field_missing c.args.fields.now.items c.args.bytes.now c.in_default.ensures.cases

pub returns-in_default-split_bytes-clause-fault : goal.returns-in_default-split_bytes-clause-fault
returns-in_default-split_bytes-clause-fault c =
    field_cut c.args.fields.now.items c.args.bytes.now c.in-Some.bytes.now c.in-Some.length.now c.in-Some.ensures.cases.0 c.in_default-split_bytes.ensures

pub returns-clause-field : goal.returns-clause-field
returns-clause-field c =
    let split = c.in-Some-split_bytes.ensures in
    let field = c.in-Some-split_bytes.field.now in
    let fit = fields_push_new c.args.fields.now.items field c.requires.fit c.requires.room (cc) in
    (field, cc (c.in_ok-push.ensures.items, c.in_ok-of.ensures), field_read c.args.fields.now.items c.args.bytes.now c.in-Some.bytes.now field c.in-Some-split_bytes.rest.now c.in-Some.length.now c.in-Some.ensures.cases.0 split.0 split.1 fit)
