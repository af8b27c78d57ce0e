use Rattle.fsl_scrub.proofs.ScrubbedLemmas.{unopened_none}
use Rattle.fsl_scrub.proofs.laws.unopened_file_stands_for_none.Goals as goal

pub returns : goal.returns
returns c = unopened_none
