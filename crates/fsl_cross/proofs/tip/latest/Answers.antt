use Rattle.fsl_cross.specs.Inside.{dated_over}
use Rattle.fsl_cross.proofs.TipLemmas.{greatest-next}
use Rattle.fsl_cross.proofs.tip.latest.Goals as goal

pub loop-name-preserved : goal.loop-name-preserved
loop-name-preserved c =
    greatest-next (dated_over c.args.tags.now.facts c.args.items.now) c.args.names.now c.loop-name.name-index c.name-item.result c.loop-name.best c.later-best.result c.dated_checkin.result
    c.loop-name-test.true c.name-item.is c.loop-name.invariant c.dated_checkin.ensures c.later-best.ensures
