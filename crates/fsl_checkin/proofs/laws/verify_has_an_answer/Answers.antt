use Rattle.fsl_checkin.proofs.SomeTree.{some_verdict}
use Rattle.fsl_checkin.proofs.laws.verify_has_an_answer.Goals as goal

pub returns : goal.returns
returns c = some_verdict
