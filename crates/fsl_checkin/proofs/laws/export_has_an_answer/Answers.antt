use Rattle.fsl_checkin.proofs.SomeTree.{some_export}
use Rattle.fsl_checkin.proofs.laws.export_has_an_answer.Goals as goal

pub returns : goal.returns
returns c = some_export
