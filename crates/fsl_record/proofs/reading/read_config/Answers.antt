use Rattle.std.proofs.Common.{ℕ, ◌<◌, List, subst, get_or, arith, rules, ◌∙◌, sym, inl}
use Rattle.std.proofs.lemmas.Result.{err_from_is_err_and}
use Rattle.fsl_record.specs.declared.Record.TheVariants as record_of
use Rattle.fsl_record.specs.Reading.{AreRead}
use Rattle.fsl_record.proofs.Cuts.{config_cut_at_head}
use Rattle.fsl_record.proofs.Fronts.{split_is, config_front, config_too_many, config_fields_fail, config_read}
use Rattle.fsl_record.proofs.reading.read_config.Goals as goal

pub returns-in_default-clause-fault : goal.returns-in_default-clause-fault
returns-in_default-clause-fault c =
    let all : (i : ℕ) → get_or c.args.bytes.now i 0 < 256 = search rules in
    λ v. inl (config_cut_at_head v c.args.bytes.now (omega (arith, c.in_default.ensures.cases)) all)

pub returns-in_default-split_first_chunk-clause-fault : goal.returns-in_default-split_first_chunk-clause-fault
returns-in_default-split_first_chunk-clause-fault c =
    let all : (i : ℕ) → get_or c.args.bytes.now i 0 < 256 = search rules in
    λ v. inl (config_cut_at_head v c.args.bytes.now (omega (arith, c.in-Some.ensures.cases.2, c.in_default-split_first_chunk.ensures.cases)) all)

pub returns-in_default-split_count-clause-fault : goal.returns-in_default-split_count-clause-fault
returns-in_default-split_count-clause-fault c =
    let all : (i : ℕ) → get_or c.args.bytes.now i 0 < 256 = search rules in
    λ v. inl (config_cut_at_head v c.args.bytes.now (omega (arith, c.in-Some.ensures.cases.2, c.in-Some-split_first_chunk.ensures.cases.2, c.in_default-split_count.ensures)) all)

pub returns-then-count-gt-MOST_FIELDS-clause-fault : goal.returns-then-count-gt-MOST_FIELDS-clause-fault
returns-then-count-gt-MOST_FIELDS-clause-fault c =
    let one = c.in-Some.ensures.cases in
    let two = c.in-Some-split_first_chunk.ensures.cases in
    let three = c.in-Some-split_count.ensures in
    let project = split_is 20 c.args.bytes.now c.in-Some.project.now c.in-Some.bytes.now one.0 one.1 one.2 in
    let server = split_is 20 c.in-Some.bytes.now c.in-Some-split_first_chunk.server.now c.in-Some-split_first_chunk.bytes.now two.0 two.1 two.2 in
    let front = config_front c.args.bytes.now c.in-Some.bytes.now c.in-Some-split_first_chunk.bytes.now c.in-Some-split_count.bytes.now _ _ c.in-Some-split_count.count project.layout project.long server.layout server.long three.0 in λ v.
    config_too_many v _ _ _ _ _ front (omega arith) three.1

pub returns-in_err-rest-clause-fault : goal.returns-in_err-rest-clause-fault
returns-in_err-rest-clause-fault c =
    let one = c.in-Some.ensures.cases in
    let two = c.in-Some-split_first_chunk.ensures.cases in
    let three = c.in-Some-split_count.ensures in
    let project = split_is 20 c.args.bytes.now c.in-Some.project.now c.in-Some.bytes.now one.0 one.1 one.2 in
    let server = split_is 20 c.in-Some.bytes.now c.in-Some-split_first_chunk.server.now c.in-Some-split_first_chunk.bytes.now two.0 two.1 two.2 in
    let front = config_front c.args.bytes.now c.in-Some.bytes.now c.in-Some-split_first_chunk.bytes.now c.in-Some-split_count.bytes.now _ _ c.in-Some-split_count.count project.layout project.long server.layout server.long three.0 in
    let p = err_from_is_err_and c.from_residual.result c.from_residual.ensures.1 in
    rw (p.1, p.2) (λ v. config_fields_fail v _ _ _ _ _ front c.in_err-rest.field-0.0 (omega arith) c.in_err-rest.ensures.fault)

pub returns-clause-record : goal.returns-clause-record
returns-clause-record c =
    let one = c.in-Some.ensures.cases in
    let two = c.in-Some-split_first_chunk.ensures.cases in
    let three = c.in-Some-split_count.ensures in
    let project = split_is 20 c.args.bytes.now c.from_bytes.result c.in-Some.bytes.now (c.from_bytes.ensures.value ∙ one.0) one.1 one.2 in
    let server = split_is 20 c.in-Some.bytes.now c.from_bytes-2.result c.in-Some-split_first_chunk.bytes.now (c.from_bytes-2.ensures.value ∙ two.0) two.1 two.2 in
    let front = config_front c.args.bytes.now c.in-Some.bytes.now c.in-Some-split_first_chunk.bytes.now c.in-Some-split_count.bytes.now _ _ c.in-Some-split_count.count project.layout project.long server.layout server.long three.0 in
    let fields = subst (λ (l : List (List ℕ)). AreRead c.in-Some-split_count.count c.in-Some-split_count.bytes.now l c.in_ok-rest.rest.now) (sym c.from_vec.ensures) c.in_ok-rest.ensures.fields in
    (record_of.Config (record { project = c.from_bytes.result; server = c.from_bytes-2.result; fields = c.from_vec.result }), c.in_ok-push.ensures.items, λ v. config_read v _ _ _ _ _ front c.from_vec.result c.in_ok-rest.rest.now fields)
