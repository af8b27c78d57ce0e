use Rattle.fsl_scrub.proofs.ScrubbedLemmas.{held_have_blobs}
use Rattle.fsl_scrub.proofs.laws.held_have_blobs.Goals as goal

pub returns : goal.returns
returns c = held_have_blobs
