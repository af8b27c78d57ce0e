use Rattle.fsl_cross.specs.Facts.{pages_fact}
use Rattle.fsl_cross.proofs.Mapped.{given-next}
use Rattle.fsl_cross.proofs.facts.pages.of_items.Goals as goal

pub loop-item-preserved : goal.loop-item-preserved
loop-item-preserved c = (
  tt,
  tt,
  given-next pages_fact c.loop-item.facts.items c.append.new.facts.items _ c.in-Some.item.now c.loop-item.item-iterator c.next.new.self c.args.items.now
      c.in_ok-fact_of.ensures c.in_ok-append.ensures c.in-Some.ensures.steps c.loop-item.invariant.2,
)
