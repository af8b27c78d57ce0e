use Rattle.fsl_text.proofs.TokenLemmas.{texts_of_spans}
use Rattle.fsl_text.proofs.token.tokens_at_spans.Goals as goal

pub returns : goal.returns
returns c = texts_of_spans
