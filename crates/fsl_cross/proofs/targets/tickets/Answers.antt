use Rattle.fsl_tags.specs.Gathered.{in_set}
use Rattle.fsl_cross.proofs.TableLemmas.{ticket-next}
use Rattle.fsl_cross.proofs.targets.tickets.Goals as goal

pub loop-item-preserved : goal.loop-item-preserved
loop-item-preserved c = (
  tt,
  tt,
  λ q. ticket-next (in_set c.loop-item.set q) (in_set c.insert_ticket.new.set q) c.in-Some.item.now c.next.new.self c.loop-item.item-iterator c.args.items.now q (c.in_ok-insert_ticket.ensures q) c.in-Some.ensures.steps (c.loop-item.invariant.2 q),
)
