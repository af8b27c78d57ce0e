use Rattle.fsl_order.proofs.Ascending as law
use Rattle.fsl_order.proofs.ascending_is_the_set.Goals as goal

pub returns : goal.returns
returns c = law.ascending_is_the_set
