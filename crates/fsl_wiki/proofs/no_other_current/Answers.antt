use Rattle.fsl_wiki.proofs.Current.{no_other}
use Rattle.fsl_wiki.proofs.no_other_current.Goals as goal

pub returns : goal.returns
returns c = no_other
