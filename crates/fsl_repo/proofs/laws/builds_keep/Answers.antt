use Rattle.fsl_repo.proofs.Keeps as keeping
use Rattle.fsl_repo.proofs.laws.builds_keep.Goals as goal

pub returns : goal.returns
returns c = keeping.builds_keep
