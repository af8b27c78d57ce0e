use Rattle.fsl_manifest.proofs.ReadBack.{is_read_back}
use Rattle.fsl_manifest.proofs.laws.written_text_reads_back.Goals as goal

pub returns : goal.returns
returns c = is_read_back
