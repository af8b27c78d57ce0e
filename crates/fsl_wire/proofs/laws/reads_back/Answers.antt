use Rattle.fsl_wire.proofs.ReadBack.{is_read_back}
use Rattle.fsl_wire.proofs.laws.reads_back.Goals as goal

pub returns : goal.returns
returns c = is_read_back
