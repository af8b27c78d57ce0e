use Rattle.fsl_text.proofs.DecimalLemmas.{IsNumberTo}
use Rattle.fsl_text.proofs.decimals.decimal.Given as goal

abbrev pub invariant-loop-at : goal.invariant-loop-at
invariant-loop-at l = IsNumberTo l.text l.at l.value
