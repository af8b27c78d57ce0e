use Rattle.std.proofs.Common.{sym}
use Rattle.fsl_name.proofs.NameTexts.{name_of_text, no_name_of_text}
use Rattle.fsl_wire.proofs.operators.name_in.Goals as goal

pub returns-in-Ok : goal.returns-in-Ok
returns-in-Ok c = sym (name_of_text c.args.token.now c.in-Ok.name c.in-Ok.ensures.value)

pub returns-in-Err : goal.returns-in-Err
returns-in-Err c = sym (no_name_of_text c.args.token.now c.in-Err.field-0 c.in-Err.ensures.value)
