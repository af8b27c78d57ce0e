use Rattle.fsl_gen.proofs.Texts.{told}
use Rattle.fsl_gen.proofs.laws.is_told_by_table.Goals as goal

pub returns : goal.returns
returns c = told
