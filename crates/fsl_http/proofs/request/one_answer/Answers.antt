use Rattle.fsl_http.proofs.OneAnswer.{answer_one}
use Rattle.fsl_http.proofs.request.one_answer.Goals as goal

pub returns : goal.returns
returns c = answer_one
