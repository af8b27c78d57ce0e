use Rattle.std.proofs.Common.{not, ap}
use Rattle.fsl_leaves.proofs.ends.is_end.Goals as goal

pub returns : goal.returns
returns g c = record { is = ap not c.in_ok-continued.ensures.is }
