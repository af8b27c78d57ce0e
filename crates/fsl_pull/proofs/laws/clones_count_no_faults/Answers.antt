use Rattle.fsl_pull.proofs.CloneCounts.{clones_count_no_faults as any_count}
use Rattle.fsl_pull.proofs.laws.clones_count_no_faults.Goals as goal

pub returns : goal.returns
returns c = any_count
