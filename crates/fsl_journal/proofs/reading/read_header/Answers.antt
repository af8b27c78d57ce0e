use Rattle.std.proofs.Common.{◌∙◌, refl}
use Rattle.fsl_journal.proofs.reading.read_header.Goals as goal

pub returns-in-None-clause-fault : goal.returns-in-None-clause-fault
returns-in-None-clause-fault c = (refl, λ mark rest same. c.in-None.ensures mark rest (c.bytes.ensures ∙ same))
