use Rattle.fsl_cross.proofs.Moved.{item_name}
use Rattle.fsl_name.proofs.RowsBuilt.{put_next}
use Rattle.std.proofs.Common.{◌∷◌}
use Rattle.fsl_cross.proofs.items.Items.placed.Goals as goal

pub loop-item-preserved : goal.loop-item-preserved
loop-item-preserved c =
    let before = c.loop-item.invariant.done in
    let item = c.in-Some.item in
    let next = put_next item_name c.loop-item.left.items c.pop.new.self.items before.0 c.args.items.items c.loop-item.set c.put.new.self item c.requires before.1 c.in-Some.ensures.items before.2 c.in_ok-put.ensures.items in
    record { done = (item ∷ before.0, next.0, next.1); rising = c.in_ok-put.ensures.rising }
