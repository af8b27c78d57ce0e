use Rattle.fsl_uv.proofs.OneMap.{records_read_one_way}
use Rattle.fsl_uv.proofs.laws.records_read_one_way.Goals as goal

pub returns : goal.returns
returns c = records_read_one_way
