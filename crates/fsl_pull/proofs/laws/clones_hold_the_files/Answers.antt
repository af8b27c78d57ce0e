use Rattle.fsl_pull.proofs.ClonesLaw.{clones_hold_the_files}
use Rattle.fsl_pull.proofs.laws.clones_hold_the_files.Goals as goal

pub returns : goal.returns
returns c = clones_hold_the_files
