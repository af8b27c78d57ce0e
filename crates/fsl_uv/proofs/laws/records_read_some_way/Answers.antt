use Rattle.fsl_uv.proofs.SomeMap.{records_read_some_way}
use Rattle.fsl_uv.proofs.laws.records_read_some_way.Goals as goal

pub returns : goal.returns
returns c = records_read_some_way
