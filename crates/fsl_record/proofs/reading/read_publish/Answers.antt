use Rattle.std.proofs.Common.{inl, refl}
use Rattle.fsl_record.proofs.Fronts.{no_whole_name}
use Rattle.fsl_record.proofs.reading.read_publish.Goals as goal

pub returns-in_default-clause-fault : goal.returns-in_default-clause-fault
returns-in_default-clause-fault c = λ v. no_whole_name v 80 c.args.bytes.now (inl refl) c.in_default.ensures.cases
