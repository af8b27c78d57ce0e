use Rattle.std.proofs.Common.{rules}
use Rattle.fsl_words.proofs.forms.number.Goals as goal

pub returns-in-Ok : goal.returns-in-Ok
returns-in-Ok c = search rules
