use Rattle.std.proofs.Common.{rules}
use Rattle.fsl_login.proofs.lines.caps_of.Goals as goal

pub returns : goal.returns
returns c = search rules
