use Rattle.fsl_repo.proofs.OneAnswer as law
use Rattle.fsl_repo.proofs.laws.unshunning_has_one_answer.Goals as goal

pub returns : goal.returns
returns c = law.one_unshunning
