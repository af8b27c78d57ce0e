use Rattle.std.proofs.Common.{◌+◌, ◌∙◌, ap, sym}
use Rattle.std.specs.Prelude.{map, codes}
use Rattle.std.proofs.lemmas.List.{take_rest}
use Rattle.httparse.specs.Spans.{header_bytes}
use Rattle.fsl_http.specs.Fields.{values_of}
use Rattle.fsl_http.proofs.Fielded.{no_header, more_lengths}
use Rattle.fsl_http.proofs.reply_head.length_of.Goals as goal

pub returns-in-Some-find-clause-none : goal.returns-in-Some-find-clause-none
returns-in-Some-find-clause-none c n is =
    more_lengths _ n _ _ _ _ (c.in-Some.ensures.found.values no_header)
    (ap (λ hs. values_of (codes "content-length") (map (header_bytes c.args.buf.now) hs)) (sym (take_rest c.args.headers.now (c.in-Some.i + 1)))
    ∙ c.in-Some-find.ensures.found.values no_header) is
