use Rattle.std.proofs.Common.{ℕ, ◌<◌, None, get_or, arith, rules, ◌∙◌, inl}
use Rattle.std.proofs.lemmas.Result.{err_from_is_err_and}
use Rattle.fsl_record.specs.declared.Record.TheVariants as record_of
use Rattle.fsl_record.proofs.Fronts.{split_is, no_head, blob_content_fault, blob_content_read, private_fails}
use Rattle.fsl_record.proofs.reading.read_blob.Goals as goal

pub returns-in_err-private-clause-fault : goal.returns-in_err-private-clause-fault
returns-in_err-private-clause-fault c =
    let p = err_from_is_err_and c.from_residual.result c.from_residual.ensures.1 in
    rw (p.1, p.2) (λ v. private_fails v c.args.bytes.now c.in_err-private.field-0.0 c.in_err-private.ensures.fault)

pub returns-in_default-clause-fault : goal.returns-in_default-clause-fault
returns-in_default-clause-fault c =
    let all : (i : ℕ) → get_or c.args.bytes.now i 0 < 256 = search rules in
    λ v. inl (no_head v c.in_ok-private.private c.args.bytes.now c.in_ok-private.bytes.now c.in_ok-private.ensures.private.layout all (omega (arith, c.in_default.ensures.cases)))

pub returns-in_err-content-clause-fault : goal.returns-in_err-content-clause-fault
returns-in_err-content-clause-fault c =
    let all : (i : ℕ) → get_or c.args.bytes.now i 0 < 256 = search rules in
    let p = err_from_is_err_and c.from_residual-in_err-content.result c.from_residual-in_err-content.ensures.1 in
    let s = c.in-Some.ensures.cases in
    let name = split_is 20 c.in_ok-private.bytes.now c.from_bytes-name.result c.in-Some.bytes.now (c.from_bytes-name.ensures.value ∙ s.0) s.1 s.2 in
    rw (p.1, p.2) (λ v. blob_content_fault v c.args.bytes.now c.in_ok-private.bytes.now c.in-Some.bytes.now c.from_bytes-name.result c.in_ok-private.private c.in_ok-private.ensures.private name.layout name.long c.in_err-content.field-0.0 all c.in_err-content.ensures.fault)

pub returns-clause-record : goal.returns-clause-record
returns-clause-record c =
    let s = c.in-Some.ensures.cases in
    let name = split_is 20 c.in_ok-private.bytes.now c.from_bytes-name.result c.in-Some.bytes.now (c.from_bytes-name.ensures.value ∙ s.0) s.1 s.2 in (
      record_of.Blob c.in_ok-private.private c.from_bytes-name.result None c.in_ok-content.content,
      c.in_ok-push.ensures.items,
      λ v. blob_content_read v c.args.bytes.now c.in_ok-private.bytes.now c.in-Some.bytes.now c.from_bytes-name.result c.in_ok-private.private c.in_ok-private.ensures.private name.layout name.long c.in_ok-content.content c.in_ok-content.rest.now c.in_ok-content.ensures.content,
    )
