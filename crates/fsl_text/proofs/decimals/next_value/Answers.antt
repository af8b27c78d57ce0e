use Rattle.std.proofs.Common.{rules}
use Rattle.fsl_text.proofs.decimals.next_value.Goals as goal

pub returns : goal.returns
returns c = search rules
