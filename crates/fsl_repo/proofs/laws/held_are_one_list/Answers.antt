use Rattle.fsl_repo.proofs.OneList as law
use Rattle.fsl_repo.proofs.laws.held_are_one_list.Goals as goal

pub returns : goal.returns
returns c = law.are_one_list
