use Rattle.fsl_scrub.proofs.WrittenLemmas.{written_are_records}
use Rattle.fsl_scrub.proofs.laws.written_are_records.Goals as goal

pub returns : goal.returns
returns c = written_are_records
