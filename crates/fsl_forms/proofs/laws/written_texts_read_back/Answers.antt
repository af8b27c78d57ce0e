use Rattle.fsl_forms.proofs.ReadBack.{read_back}
use Rattle.fsl_forms.proofs.laws.written_texts_read_back.Goals as goal

pub returns : goal.returns
returns c = read_back
