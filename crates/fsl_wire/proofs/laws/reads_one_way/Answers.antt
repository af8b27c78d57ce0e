use Rattle.fsl_wire.proofs.OneWay.{reads_one_way}
use Rattle.fsl_wire.proofs.laws.reads_one_way.Goals as goal

pub returns : goal.returns
returns c = reads_one_way
