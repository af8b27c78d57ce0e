use Rattle.std.proofs.Common.{inr, refl}
use Rattle.fsl_record.proofs.Fronts.{no_whole_name}
use Rattle.fsl_record.proofs.reading.read_unshun.Goals as goal

pub returns-in_default-clause-fault : goal.returns-in_default-clause-fault
returns-in_default-clause-fault c = no_whole_name 2 85 c.args.bytes.now (inr (inr (refl, refl))) c.in_default.ensures.cases
