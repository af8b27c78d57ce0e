use Rattle.std.proofs.Common.{sym, ap, ◌∙◌, arith}
use Rattle.std.proofs.lemmas.Result.{err_from_is_err_and}
use Rattle.fsl_grammar.proofs.ReadingLemmas.{missing-at}
use Rattle.fsl_grammar.proofs.reading.each.Goals as goal

pub returns-in_err-value : goal.returns-in_err-value
returns-in_err-value g c =
    let p = err_from_is_err_and c.from_residual.result c.from_residual.ensures.1 in
    rw (p.1, p.2) (λ why xs h.
    missing-at g.F.Form.form c.args.cards.now c.args.letter c.loop-card.card-index c.card-item.result (omega arith) c.card-item.is c.if-card-letter.true
    (ap g.F.Form.form (sym c.items.ensures) ∙ c.in_err-value.ensures why) c.loop-card.values xs c.loop-card.invariant h)
