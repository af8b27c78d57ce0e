use Rattle.fsl_checkin.proofs.SomeTreeText.{some_text}
use Rattle.fsl_checkin.proofs.laws.text_is_tree_or_not.Goals as goal

pub returns : goal.returns
returns c = some_text
