use Rattle.fsl_scrub.proofs.FoldLemmas.{folds_alike}
use Rattle.fsl_scrub.proofs.laws.scrubbed_records_leave_the_same.Goals as goal

pub returns : goal.returns
returns c = folds_alike
