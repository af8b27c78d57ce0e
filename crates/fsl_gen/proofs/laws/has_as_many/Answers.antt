use Rattle.fsl_gen.proofs.Orders.{as_many}
use Rattle.fsl_gen.proofs.laws.has_as_many.Goals as goal

pub returns : goal.returns
returns c = as_many
