use Rattle.fsl_card.proofs.SealLemmas.{seal_line-from}
use Rattle.fsl_card.proofs.seal.seal_digits.Goals as goal

pub returns-clause-some : goal.returns-clause-some
returns-clause-some c = seal_line-from c.args.line.now c.requires c.if-line-ne90.false c.if-line-ne32.false c.if-line-ne10.false
