use Rattle.fsl_record.proofs.OneFault.{group_one_fault}
use Rattle.fsl_record.proofs.laws.has_one_fault.Goals as goal

pub returns : goal.returns
returns c = group_one_fault
