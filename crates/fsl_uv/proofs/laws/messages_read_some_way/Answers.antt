use Rattle.fsl_uv.proofs.SomeMessage.{messages_read_some_way}
use Rattle.fsl_uv.proofs.laws.messages_read_some_way.Goals as goal

pub returns : goal.returns
returns c = messages_read_some_way
