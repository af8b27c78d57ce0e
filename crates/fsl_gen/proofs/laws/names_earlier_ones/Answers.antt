use Rattle.fsl_gen.proofs.EarlierNames.{names_earlier}
use Rattle.fsl_gen.proofs.laws.names_earlier_ones.Goals as goal

pub returns : goal.returns
returns c = names_earlier
