use Rattle.fsl_card.proofs.ReadAgain.{unambiguous}
use Rattle.fsl_card.proofs.laws.text_is_unambiguous.Goals as goal

pub returns : goal.returns
returns c = unambiguous
