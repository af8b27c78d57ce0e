use Rattle.std.proofs.Common.{◌+◌, ◌∙◌, ap, sym}
use Rattle.std.specs.Prelude.{map, codes}
use Rattle.std.proofs.lemmas.List.{take_rest}
use Rattle.httparse.specs.Spans.{header_bytes}
use Rattle.fsl_http.specs.Fields.{values_of}
use Rattle.fsl_http.proofs.Fielded.{one_encoding, one_length, two_lengths, no_header}
use Rattle.fsl_http.proofs.request_head.judge_fields.Goals as goal

pub returns-in-Some-clause-value : goal.returns-in-Some-clause-value
returns-in-Some-clause-value c = one_encoding _ _ _ _ (c.in-Some.ensures.found.values no_header)

pub returns-in-Some-find-2-clause-value : goal.returns-in-Some-find-2-clause-value
returns-in-Some-find-2-clause-value c =
    two_lengths _ _ _ _ _ _ c.in_default.ensures.none (c.in-Some-find.ensures.found.values no_header)
    (ap (λ hs. values_of (codes "content-length") (map (header_bytes c.args.buf.now) hs)) (sym (take_rest c.args.headers.now (c.in-Some-find.i + 1)))
    ∙ c.in-Some-find-2.ensures.found.values no_header)

pub returns-clause-value : goal.returns-clause-value
returns-clause-value c =
    one_length _ _ _ c.of.result.now _ c.in_default.ensures.none
    (c.in-Some-find.ensures.found.values (record { name = record { start = 0; end = 0 }; value = record { start = 0; end = 0 } }))
    (ap (λ hs. values_of (codes "content-length") (map (header_bytes c.args.buf.now) hs)) (sym (take_rest c.args.headers.now (c.in-Some-find.i + 1)))
    ∙ c.in_default-find-2.ensures.none)
    c.of.ensures c.judge_value.result c.judge_value.ensures.value
