use Rattle.fsl_gen.proofs.Texts.{follows}
use Rattle.fsl_gen.proofs.laws.follows_table.Goals as goal

pub returns : goal.returns
returns c = follows
