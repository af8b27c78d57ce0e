use Rattle.fsl_gen.proofs.Orders.{is_reversed}
use Rattle.fsl_gen.proofs.laws.reverses.Goals as goal

pub returns : goal.returns
returns c = is_reversed
