use Rattle.std.proofs.Common.{Some}
use Rattle.std.proofs.lemmas.Result.{err_from_is_err_and}
use Rattle.fsl_grammar.proofs.reading.one.Goals as goal

pub returns-in_err-at_most_one : goal.returns-in_err-at_most_one
returns-in_err-at_most_one g c =
    let p = err_from_is_err_and c.from_residual.result c.from_residual.ensures.1 in
    rw (p.1, p.2) (λ why x h. c.in_err-at_most_one.ensures why (Some x) h)
