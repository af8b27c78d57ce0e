use Rattle.fsl_scrub.proofs.FoldLemmas.{moments_stand}
use Rattle.fsl_scrub.proofs.laws.each_moment_stands.Goals as goal

pub returns : goal.returns
returns c = moments_stand
