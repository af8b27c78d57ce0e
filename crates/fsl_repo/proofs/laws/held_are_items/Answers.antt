use Rattle.fsl_repo.proofs.SomeArrival as law
use Rattle.fsl_repo.proofs.laws.held_are_items.Goals as goal

pub returns : goal.returns
returns c = law.some_items
