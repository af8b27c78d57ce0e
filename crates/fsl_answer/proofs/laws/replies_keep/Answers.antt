use Rattle.fsl_answer.proofs.Keeping.{replies_keep}
use Rattle.fsl_answer.proofs.laws.replies_keep.Goals as goal

pub returns : goal.returns
returns c = replies_keep
