use Rattle.fsl_checkin.proofs.OneLemmas.{bad_is_no_tree}
use Rattle.fsl_checkin.proofs.laws.bad_text_is_no_tree.Goals as goal

pub returns : goal.returns
returns c = bad_is_no_tree
