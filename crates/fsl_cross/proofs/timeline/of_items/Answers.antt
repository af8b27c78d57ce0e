use Rattle.fsl_tags.specs.Gathered.{in_set}
use Rattle.fsl_cross.specs.Inside.{item_row_over}
use Rattle.fsl_cross.proofs.Mapped.{given-next}
use Rattle.fsl_cross.proofs.timeline.of_items.Goals as goal

pub loop-item-preserved : goal.loop-item-preserved
loop-item-preserved c =
    let a = c.args in (
      tt,
      tt,
      given-next (item_row_over a.tags.now.facts a.pages.now.facts a.threads.now.facts (in_set a.targets.now.tickets) (in_set a.targets.now.notes)) c.loop-item.rows.items c.append.new.facts.items _ c.in-Some.item.now
          c.loop-item.item-iterator c.next.new.self a.items.now c.in_ok-row_of.ensures c.in_ok-append.ensures c.in-Some.ensures.steps c.loop-item.invariant.2,
    )
