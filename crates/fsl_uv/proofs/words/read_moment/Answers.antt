use Rattle.std.proofs.Common.{◌∙◌, sym}
use Rattle.fsl_uv.proofs.WordLemmas.{tie, no-tie, other-moment, no-moment}
use Rattle.fsl_uv.proofs.words.read_moment.Goals as goal

pub returns-then-eq : goal.returns-then-eq
returns-then-eq c = (c.in-Some.ensures.moment, sym (tie c.eq.result c.as_slice.result.now c.args.word.now c.eq.ensures c.if-eq.true) ∙ c.as_slice.ensures ∙ c.text.ensures.value)

pub returns-else-eq : goal.returns-else-eq
returns-else-eq c =
    other-moment c.args.word.now c.in-Some.moment (sym c.in-Some.ensures.value)
    (λ e. no-tie c.eq.result c.as_slice.result.now c.args.word.now c.eq.ensures c.if-eq.false (c.as_slice.ensures ∙ c.text.ensures.value ∙ e))

pub returns-in-None : goal.returns-in-None
returns-in-None c = no-moment c.args.word.now (sym c.in-None.ensures.value)
