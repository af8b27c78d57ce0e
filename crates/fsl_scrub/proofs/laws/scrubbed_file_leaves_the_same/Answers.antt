use Rattle.fsl_scrub.proofs.FoldLemmas.{loads_alike}
use Rattle.fsl_scrub.proofs.laws.scrubbed_file_leaves_the_same.Goals as goal

pub returns : goal.returns
returns c = loads_alike
