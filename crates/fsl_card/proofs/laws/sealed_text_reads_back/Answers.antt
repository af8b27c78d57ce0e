use Rattle.fsl_card.proofs.SealLemmas.{is_read_back}
use Rattle.fsl_card.proofs.laws.sealed_text_reads_back.Goals as goal

pub returns : goal.returns
returns c = is_read_back
