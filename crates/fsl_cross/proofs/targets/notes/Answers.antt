use Rattle.fsl_tags.specs.Gathered.{in_set}
use Rattle.fsl_cross.proofs.TableLemmas.{note-next}
use Rattle.fsl_cross.proofs.targets.notes.Goals as goal

pub loop-item-preserved : goal.loop-item-preserved
loop-item-preserved c = (
  tt,
  tt,
  λ q. note-next (in_set c.loop-item.set q) (in_set c.insert_note.new.set q) c.in-Some.item.now c.next.new.self c.loop-item.item-iterator c.args.items.now q (c.in_ok-insert_note.ensures q) c.in-Some.ensures.steps (c.loop-item.invariant.2 q),
)
