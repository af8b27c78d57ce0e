use Rattle.fsl_scrub.proofs.AlikeLemmas.{written_folds_alike}
use Rattle.fsl_scrub.proofs.laws.written_records_leave_the_same.Goals as goal

pub returns : goal.returns
returns c = written_folds_alike
