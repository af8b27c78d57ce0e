use Rattle.fsl_name.proofs.NameTexts.{name_of_text, no_name_of_text}
use Rattle.fsl_words.proofs.forms.name.Goals as goal

pub returns-in-Ok : goal.returns-in-Ok
returns-in-Ok c = name_of_text c.args.word.now c.in-Ok.name c.in-Ok.ensures.value

pub returns-in-Err : goal.returns-in-Err
returns-in-Err c = no_name_of_text c.args.word.now c.in-Err.field-0 c.in-Err.ensures.value
