use Rattle.fsl_scrub.proofs.WrittenLemmas.{written_moments_stand}
use Rattle.fsl_scrub.proofs.laws.each_written_moment_stands.Goals as goal

pub returns : goal.returns
returns c = written_moments_stand
