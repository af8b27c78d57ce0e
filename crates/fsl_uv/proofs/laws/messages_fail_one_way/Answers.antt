use Rattle.fsl_uv.proofs.OneFault.{messages_fail_one_way}
use Rattle.fsl_uv.proofs.laws.messages_fail_one_way.Goals as goal

pub returns : goal.returns
returns c = messages_fail_one_way
