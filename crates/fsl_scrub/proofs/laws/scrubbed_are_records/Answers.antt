use Rattle.fsl_scrub.proofs.FoldLemmas.{scrubbed_are_records}
use Rattle.fsl_scrub.proofs.laws.scrubbed_are_records.Goals as goal

pub returns : goal.returns
returns c = scrubbed_are_records
