use Rattle.fsl_repo.specs.Laters as laters
use Rattle.fsl_repo.proofs.machine.steps_go_on.Goals as goal

pub returns : goal.returns
returns c = laters.steps_go_on
