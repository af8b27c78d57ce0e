use Rattle.fsl_text.proofs.TokenLemmas.{IsScanned}
use Rattle.fsl_text.proofs.token.tokens.Given as goal

abbrev pub invariant-loop-at : goal.invariant-loop-at
invariant-loop-at l = IsScanned l.line l.from l.at l.spans
