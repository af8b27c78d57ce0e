use Rattle.std.proofs.Common.{sym, ◌∙◌}
use Rattle.fsl_cross.proofs.Paired.{read-none, read-some}
use Rattle.fsl_pull.proofs.cloning.name_in.Goals as goal

pub returns-in-Ok : goal.returns-in-Ok
returns-in-Ok c = read-some c.args.text.now _ (sym c.read.ensures.value ∙ c.in-Ok.is)

pub returns-in-Err : goal.returns-in-Err
returns-in-Err c = read-none c.args.text.now _ (sym c.read.ensures.value ∙ c.in-Err.is)
