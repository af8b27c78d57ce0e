use Rattle.fsl_cross.specs.Facts.{field_change}
use Rattle.fsl_cross.proofs.Mapped.{map-next}
use Rattle.fsl_cross.proofs.facts.tickets.changes_of.Goals as goal

pub loop-card-preserved : goal.loop-card-preserved
loop-card-preserved c =
    map-next field_change c.args.cards.now c.loop-card.card-index c.card-item.result c.loop-card.changes.items c.push.new.self.items _ c.loop-card-test.true c.card-item.is c.in_ok-change_of.ensures c.in_ok-push.ensures.items c.loop-card.invariant
