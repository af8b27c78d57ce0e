use Rattle.fsl_tags.proofs.Ends.{both_if}
use Rattle.fsl_tags.proofs.Blending.{row-over, row-under}
use Rattle.fsl_tags.proofs.merge.laid.Goals as goal

pub returns-then-len : goal.returns-then-len
returns-then-len c =
    both_if c.laid_over.result (λ row rises newest. row-over c.args.own.now c.args.above.now row c.requires.own c.requires.above c.requires.passing rises newest)
    c.laid_over.ensures.rising c.laid_over.ensures.newest

pub returns-then-len-2 : goal.returns-then-len-2
returns-then-len-2 c =
    both_if c.laid_under.result (λ row rises newest. row-under c.args.own.now c.args.above.now row c.requires.own c.requires.above c.requires.passing rises newest)
    c.laid_under.ensures.rising c.laid_under.ensures.newest
