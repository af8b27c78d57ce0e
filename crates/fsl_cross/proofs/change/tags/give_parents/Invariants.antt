use Rattle.std.proofs.Common.{take}
use Rattle.fsl_cross.specs.Mixed.{GoesOn, tags_mixed, pushed, is_child}
use Rattle.fsl_cross.specs.Touches.{NoneOf, Untouched}
use Rattle.fsl_cross.specs.Trails.{Led, TagsTold}
use Rattle.fsl_cross.proofs.change.tags.give_parents.Given as goal

-- the names that were passed are done
abbrev pub invariant-loop-child : goal.invariant-loop-child
invariant-loop-child g l = record {
  facts : GoesOn (tags_mixed l.items l.item.name) (pushed (is_child l.items l.item.name) (take l.child-index l.children)) l.fn.tags.facts l.tags.facts;
  led : Led l.fn.tags l.fn.undos l.tags l.undos;
  told : TagsTold l.fn.undos → TagsTold l.undos;
  idle : NoneOf (is_child l.items l.item.name) l.children → Untouched l.fn.steps l.steps l.fn.undos l.undos;
}
