use Rattle.std.proofs.Common.{◌∙◌, sym}
use Rattle.fsl_uv.proofs.WordLemmas.{no-tie, other-size, no-size}
use Rattle.fsl_uv.proofs.words.read_size.Goals as goal

pub returns-else-eq : goal.returns-else-eq
returns-else-eq c =
    other-size c.args.word.now c.in-Ok.size (sym c.in-Ok.ensures)
    (λ e. no-tie c.eq.result c.as_bytes.result.now c.args.word.now c.eq.ensures c.if-eq.false (c.as_bytes.ensures.value ∙ c.format.ensures.text ∙ e))

pub returns-in-Err : goal.returns-in-Err
returns-in-Err c = no-size c.args.word.now c.in-Err.field-0 (sym c.in-Err.ensures)
