use Rattle.fsl_journal.proofs.Walked.{life_grown}
use Rattle.fsl_journal.proofs.laws.life_grows.Goals as goal

pub returns : goal.returns
returns c = life_grown
