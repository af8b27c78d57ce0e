use Rattle.fsl_pull.proofs.SomeEnd.{syncs_have_some_end}
use Rattle.fsl_pull.proofs.laws.syncs_have_some_end.Goals as goal

pub returns : goal.returns
returns c = syncs_have_some_end
