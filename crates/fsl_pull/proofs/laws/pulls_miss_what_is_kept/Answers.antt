use Rattle.fsl_pull.proofs.MissesLaw.{pulls_miss_what_is_kept}
use Rattle.fsl_pull.proofs.laws.pulls_miss_what_is_kept.Goals as goal

pub returns : goal.returns
returns c = pulls_miss_what_is_kept
