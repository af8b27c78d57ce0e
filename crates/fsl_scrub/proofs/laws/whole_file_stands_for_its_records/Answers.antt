use Rattle.fsl_scrub.proofs.ScrubbedLemmas.{whole_stands}
use Rattle.fsl_scrub.proofs.laws.whole_file_stands_for_its_records.Goals as goal

pub returns : goal.returns
returns c = whole_stands
