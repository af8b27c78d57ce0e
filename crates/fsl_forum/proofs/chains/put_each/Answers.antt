use Rattle.fsl_forum.proofs.Climbs.{put_next}
use Rattle.fsl_forum.proofs.chains.put_each.Goals as goal

pub loop-name-preserved : goal.loop-name-preserved
loop-name-preserved c =
    put_next c.args.names.now c.loop-name.name-index c.name-item.result c.args.end.now c.args.ends.now.entries c.loop-name.ends.entries c.put.new.map.entries
    c.loop-name-test.true c.name-item.is c.loop-name.invariant c.in_ok-put.ensures.value
