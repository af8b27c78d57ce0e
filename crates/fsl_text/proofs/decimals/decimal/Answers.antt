use Rattle.std.proofs.Common.{sym, ◌∙◌}
use Rattle.fsl_text.proofs.DecimalLemmas.{digit_fault, number_done}
use Rattle.fsl_text.proofs.decimals.decimal.Goals as goal

pub returns-then-not-is_ascii_digit : goal.returns-then-not-is_ascii_digit
returns-then-not-is_ascii_digit c =
    digit_fault c.args.text.now c.loop-at.at c.loop-at.value c.loop-at-test.true (sym c.is_ascii_digit.ensures.value ∙ c.if-not-is_ascii_digit.true) c.loop-at.invariant

pub returns : goal.returns
returns c =
    c.ok_or.ensures.value ∙ number_done c.args.text.now c.loop-at.at c.loop-at.value c.loop-at-test.false c.if-is_empty.ensures c.loop-at.invariant
