use Rattle.fsl_http.proofs.OneReply.{one_reply}
use Rattle.fsl_http.proofs.client.one_reply.Goals as goal

pub returns : goal.returns
returns c = one_reply
