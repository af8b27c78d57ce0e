use Rattle.fsl_grammar.proofs.FormLemmas.{name_in-read}
use Rattle.fsl_grammar.proofs.forms.read_hash.Goals as goal

pub returns-in-Ok : goal.returns-in-Ok
returns-in-Ok c = name_in-read c.args.arg.now _ c.in-Ok.ensures.value

pub returns-in-Err : goal.returns-in-Err
returns-in-Err c = name_in-read c.args.arg.now _ c.in-Err.ensures.value
