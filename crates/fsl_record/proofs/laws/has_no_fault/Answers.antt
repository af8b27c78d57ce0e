use Rattle.fsl_record.proofs.Exclusive.{group_no_fault}
use Rattle.fsl_record.proofs.laws.has_no_fault.Goals as goal

pub returns : goal.returns
returns c = group_no_fault
