use Rattle.fsl_answer.proofs.ReplyLemmas.{stops}
use Rattle.fsl_answer.proofs.budget.taken.Goals as goal

pub returns-then-left-eq0 : goal.returns-then-left-eq0
returns-then-left-eq0 c = stops c.args.sizes.now c.loop-at.at c.loop-at.left c.loop-at.invariant.count c.loop-at.invariant.left c.if-left-eq0.true
