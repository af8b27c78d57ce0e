use Rattle.std.proofs.Common.{refl}
use Rattle.fsl_record.proofs.laws.written_reads_back.Goals as goal

pub returns : goal.returns
returns c = λ version first records some stand fit known. record { some = some; layout = refl; stand = stand; fit = fit; known = known }
