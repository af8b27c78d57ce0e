use Rattle.fsl_text.specs.Escapes.{unescape}
use Rattle.fsl_forms.proofs.PartLemmas.{change_read_from, no_change}
use Rattle.fsl_forms.proofs.ticket.read_change.Goals as goal

pub returns-in-Ok : goal.returns-in-Ok
returns-in-Ok c = change_read_from (unescape c.args.name.now) c.args.value _ _ c.in-Ok.ensures

pub returns-in-Err : goal.returns-in-Err
returns-in-Err c = λ form. no_change (unescape c.args.name.now) c.args.value (c.in-Err.ensures form)
