use Rattle.fsl_forum.proofs.Reaching.{visited-none, visited-next}
use Rattle.fsl_forum.proofs.reached.visit_each.Goals as goal

pub loop-name-init : goal.loop-name-init
loop-name-init c = record { visited = visited-none c.args.seen.now.keys c.args.waiting.now.items; rising = c.requires }

pub loop-name-preserved : goal.loop-name-preserved
loop-name-preserved c = record {
  visited = visited-next c.args.names.now c.loop-name.name-index c.name-item.result c.args.seen.now.keys c.args.waiting.now.items c.loop-name.seen.keys c.loop-name.waiting.items c.visit.new.seen.keys c.visit.new.waiting.items
      c.loop-name-test.true c.name-item.is c.loop-name.invariant.visited c.in_ok-visit.ensures.visited;
  rising = c.in_ok-visit.ensures.rising;
}
