use Rattle.std.proofs.Common.{sym, drop, ◌-◌, take, length, refl}
use Rattle.fsl_wire.proofs.TokenLemmas.{no_token, first_split}
use Rattle.fsl_wire.proofs.tokens.first_token.Goals as goal

pub returns-in_default-clause-none : goal.returns-in_default-clause-none
returns-in_default-clause-none c = no_token c.args.line.now (sym c.in_default.ensures)

pub slice_bounds-result-count : goal.slice_bounds-result-count
slice_bounds-result-count c = c.token_end-end.ensures.within

pub returns-clause-some : goal.returns-clause-some
returns-clause-some c =
    first_split c.args.line.now (take (length c.args.line.now - c.in-Some.start) (drop c.in-Some.start c.args.line.now)) c.in-Some.start c.token_end-end.result (sym c.in-Some.ensures) refl
    c.token_end-end.ensures.place
