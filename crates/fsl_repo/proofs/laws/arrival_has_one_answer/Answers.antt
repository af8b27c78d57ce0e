use Rattle.fsl_repo.proofs.OneArrival as law
use Rattle.fsl_repo.proofs.laws.arrival_has_one_answer.Goals as goal

pub returns : goal.returns
returns c = law.one_arrival
