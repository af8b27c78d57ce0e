use Rattle.fsl_repo.proofs.SomeArrival as law
use Rattle.fsl_repo.proofs.laws.arrival_has_an_answer.Goals as goal

pub returns : goal.returns
returns c = law.some_arrival
