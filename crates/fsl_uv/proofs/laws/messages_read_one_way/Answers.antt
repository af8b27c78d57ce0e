use Rattle.fsl_uv.proofs.OneWay.{messages_read_one_way}
use Rattle.fsl_uv.proofs.laws.messages_read_one_way.Goals as goal

pub returns : goal.returns
returns c = messages_read_one_way
