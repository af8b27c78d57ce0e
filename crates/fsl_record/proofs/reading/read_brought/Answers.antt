use Rattle.std.proofs.Common.{Some, refl, sym, subst, arith, ◌∙◌, inl, inr}
use Rattle.std.proofs.lemmas.Result.{err_from_is_err_and}
use Rattle.fsl_record.specs.Receipts.{Brought}
use Rattle.fsl_record.specs.Brought.{IsReceiptRead}
use Rattle.fsl_record.specs.declared.Record.TheVariants as record_of
use Rattle.fsl_record.specs.declared.RecordFault.TheVariants.{Short}
use Rattle.fsl_record.proofs.Fronts.{split_is, piece_of, brought_fault, brought_content_fault, brought_read}
use Rattle.fsl_record.proofs.reading.read_brought.Goals as goal

pub returns-in_err-private-clause-fault : goal.returns-in_err-private-clause-fault
returns-in_err-private-clause-fault c =
    let p = err_from_is_err_and c.from_residual.result c.from_residual.ensures.1 in
    rw (p.1, p.2) (brought_fault c.args.bytes.now c.in_err-private.field-0.0 (inl c.in_err-private.ensures.fault))

pub returns-in_default-clause-fault : goal.returns-in_default-clause-fault
returns-in_default-clause-fault c =
    brought_fault c.args.bytes.now Short (inr (c.in_ok-private.private, c.in_ok-private.bytes.now, c.in_ok-private.ensures.private, inl (refl, omega (arith, c.in_default.ensures.cases))))

pub returns-in_err-number-clause-fault : goal.returns-in_err-number-clause-fault
returns-in_err-number-clause-fault c =
    let p = err_from_is_err_and c.from_residual-in_err-number.result c.from_residual-in_err-number.ensures.1 in
    let s = c.in-Some.ensures.cases in
    let name = piece_of 20 c.in_ok-private.bytes.now c.from_bytes-name.result c.in-Some.bytes.now (split_is 20 c.in_ok-private.bytes.now c.from_bytes-name.result c.in-Some.bytes.now (c.from_bytes-name.ensures.value ∙ s.0) s.1 s.2) in
    rw (p.1, p.2) (brought_fault c.args.bytes.now c.in_err-number.field-0.0 (inr (c.in_ok-private.private, c.in_ok-private.bytes.now, c.in_ok-private.ensures.private, inr (c.from_bytes-name.result, c.in-Some.bytes.now, name, inl c.in_err-number.ensures.fault))))

pub returns-in_err-content-clause-fault : goal.returns-in_err-content-clause-fault
returns-in_err-content-clause-fault c =
    let p = err_from_is_err_and c.from_residual-in_err-content.result c.from_residual-in_err-content.ensures.1 in
    let s = c.in-Some.ensures.cases in
    let name = piece_of 20 c.in_ok-private.bytes.now c.from_bytes-name.result c.in-Some.bytes.now (split_is 20 c.in_ok-private.bytes.now c.from_bytes-name.result c.in-Some.bytes.now (c.from_bytes-name.ensures.value ∙ s.0) s.1 s.2) in
    rw (p.1, p.2) (brought_content_fault c.args.bytes.now c.in_ok-private.bytes.now c.in-Some.bytes.now c.in_ok-number.bytes.now c.from_bytes-name.result c.in_ok-private.private _ c.in_ok-private.ensures.private name c.in_ok-number.ensures.receipt c.in_err-content.field-0.0 c.in_err-content.ensures.fault)

pub returns-clause-record : goal.returns-clause-record
returns-clause-record c =
    let s = c.in-Some.ensures.cases in
    let name = piece_of 20 c.in_ok-private.bytes.now c.from_bytes-name.result c.in-Some.bytes.now (split_is 20 c.in_ok-private.bytes.now c.from_bytes-name.result c.in-Some.bytes.now (c.from_bytes-name.ensures.value ∙ s.0) s.1 s.2) in
    let receipt = subst (λ (r : Brought). IsReceiptRead c.in-Some.bytes.now r c.in_ok-number.bytes.now) (sym (c.in_ok-receipt.ensures ∙ (λ i. record { login = c.in_ok-number.login.now; moment = c.moment_of.ensures.value i }))) c.in_ok-number.ensures.receipt in (
      record_of.Blob c.in_ok-private.private c.from_bytes-name.result (Some c.in_ok-receipt.receipt) c.in_ok-content.content,
      c.in_ok-push.ensures.items,
      brought_read c.args.bytes.now c.in_ok-private.bytes.now c.in-Some.bytes.now c.in_ok-number.bytes.now c.from_bytes-name.result c.in_ok-private.private c.in_ok-receipt.receipt c.in_ok-private.ensures.private name receipt c.in_ok-content.content c.in_ok-content.rest.now c.in_ok-content.ensures.content,
    )
