use Rattle.fsl_cross.specs.Facts.{file_row}
use Rattle.fsl_cross.proofs.Mapped.{map-next}
use Rattle.fsl_cross.proofs.facts.files.rows_of.Goals as goal

pub loop-card-preserved : goal.loop-card-preserved
loop-card-preserved c =
    map-next file_row c.args.cards.now c.loop-card.card-index c.card-item.result c.loop-card.rows.items c.push.new.self.items _ c.loop-card-test.true c.card-item.is c.in_ok-row_of.ensures c.in_ok-push.ensures.items c.loop-card.invariant
