use Rattle.fsl_repo.proofs.OneAnswer as law
use Rattle.fsl_repo.proofs.laws.unshunning_has_an_answer.Goals as goal

pub returns : goal.returns
returns c = law.some_unshunning
