use Rattle.fsl_scrub.proofs.WrittenLemmas.{honest_is_same}
use Rattle.fsl_scrub.proofs.laws.honest_is_same.Goals as goal

pub returns : goal.returns
returns c = honest_is_same
