use Rattle.fsl_gen.proofs.Orders.{arrives}
use Rattle.fsl_gen.proofs.laws.arrives_each_once.Goals as goal

pub returns : goal.returns
returns c = arrives
