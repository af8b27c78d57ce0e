use Rattle.std.proofs.Common.{sym}
use Rattle.fsl_grammar.proofs.forms.read_ref.Goals as goal

pub returns-in-Ok : goal.returns-in-Ok
returns-in-Ok c = sym c.in-Ok.ensures.value

pub returns-in-Err : goal.returns-in-Err
returns-in-Err c = sym c.in-Err.ensures.value
