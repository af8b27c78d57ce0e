use Rattle.fsl_checkin.proofs.LawLemmas.{one_tree}
use Rattle.fsl_checkin.proofs.laws.text_is_one_tree.Goals as goal

pub returns : goal.returns
returns c = one_tree
