use Rattle.fsl_text.proofs.Unescaping.{unescape-escape}
use Rattle.fsl_text.proofs.escapes.unescapes_escaped.Goals as goal

pub returns : goal.returns
returns c = unescape-escape
