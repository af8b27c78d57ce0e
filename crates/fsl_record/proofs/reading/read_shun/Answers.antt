use Rattle.std.proofs.Common.{inl, inr, refl}
use Rattle.fsl_record.proofs.Fronts.{no_whole_name}
use Rattle.fsl_record.proofs.reading.read_shun.Goals as goal

pub returns-in_default-clause-fault : goal.returns-in_default-clause-fault
returns-in_default-clause-fault c = λ v. no_whole_name v 83 c.args.bytes.now (inr (inl refl)) c.in_default.ensures.cases
