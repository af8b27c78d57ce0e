use Rattle.fsl_checkin.proofs.LawLemmas.{written_reads_back}
use Rattle.fsl_checkin.proofs.laws.written_tree_reads_back.Goals as goal

pub returns : goal.returns
returns c = written_reads_back
