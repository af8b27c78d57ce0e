use Rattle.std.proofs.Common.{sym, arith}
use Rattle.fsl_text.specs.Tokens.{is_blank}
use Rattle.fsl_wire.proofs.TokenLemmas.{place_found, no_place, at_most}
use Rattle.fsl_wire.proofs.tokens.token_end.Goals as goal

pub returns-in-Some : goal.returns-in-Some
returns-in-Some c =
    let at = place_found is_blank c.args.line.now c.in-Some.end (sym c.in-Some.ensures) in
    let most = at_most is_blank c.args.line.now in
    record { place = at; within = omega arith }

pub returns-in-None : goal.returns-in-None
returns-in-None c =
    let past = no_place is_blank c.args.line.now (sym c.in-None.ensures) in
    let most = at_most is_blank c.args.line.now in
    record { place = omega arith; within = omega arith }
