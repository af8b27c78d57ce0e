use Rattle.fsl_tags.proofs.Stronger.{own_stays, above_comes, own_is_newer}
use Rattle.fsl_tags.proofs.merge.stronger.Goals.{else-propagates-via-then-propagates+else-is_newer, else-propagates-via-else-propagates}
use Rattle.fsl_tags.proofs.merge.stronger.Goals as goal

pub returns-then-is_newer : goal.returns-then-is_newer
returns-then-is_newer c =
    above_comes c.args.own.now c.args.above.now c.get.result.now c.propagates.result c.propagates.ensures c.get.ensures c.get-then-propagates.result.now c.get-then-propagates-2.result.now c.is_newer.result c.is_newer.ensures
    c.get-then-propagates.ensures c.get-then-propagates-2.ensures c.if-propagates.true c.if-is_newer.true

pub returns-else-propagates : goal.returns-else-propagates
returns-else-propagates c = elim c.else-propagates.branch [
  | else-propagates-via-then-propagates+else-is_newer w ↦
      own_is_newer c.args.own.now c.args.above.now c.get.result.now c.propagates.result c.propagates.ensures c.get.ensures w.get-then-propagates.result.now w.get-then-propagates-2.result.now w.is_newer.result w.is_newer.ensures
      w.get-then-propagates.ensures w.get-then-propagates-2.ensures w.if-propagates.true w.if-is_newer.false
  | else-propagates-via-else-propagates w ↦ own_stays c.args.own.now c.args.above.now c.get.result.now c.propagates.result c.propagates.ensures c.get.ensures w.if-propagates.false
]
