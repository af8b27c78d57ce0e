use Rattle.fsl_repo.proofs.OneAnswer as law
use Rattle.fsl_repo.proofs.laws.events_have_answers.Goals as goal

pub returns : goal.returns
returns c = law.some_step
