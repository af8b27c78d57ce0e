use Rattle.fsl_cross.specs.Facts.{cluster_fact}
use Rattle.fsl_cross.proofs.Mapped.{mapped-next}
use Rattle.fsl_cross.proofs.facts.clusters.of_items.Goals as goal

pub loop-item-preserved : goal.loop-item-preserved
loop-item-preserved c = (
  tt,
  tt,
  mapped-next cluster_fact c.loop-item.facts.items c.push.new.self.items _ c.in-Some.item.now c.loop-item.item-iterator c.next.new.self c.args.items.now
      c.in_ok-fact_of.ensures c.in_ok-push.ensures.items c.in-Some.ensures.steps c.loop-item.invariant.2,
)
