use Rattle.std.proofs.Common.{take}
use Rattle.fsl_cross.specs.Mixed.{GoesOn, tags_mixed, pushed, is_child, all_changed}
use Rattle.fsl_cross.specs.Touches.{NoneLate, Untouched}
use Rattle.fsl_cross.specs.Trails.{Led, TagsTold}
use Rattle.fsl_cross.proofs.change.tags.give_late.Given as goal

-- the names that were passed are done
abbrev pub invariant-loop-change : goal.invariant-loop-change
invariant-loop-change g l = record {
  facts : GoesOn (tags_mixed l.items l.item.name) (pushed (is_child l.items l.item.name) (all_changed (take l.change-index l.changes))) l.fn.tags.facts l.tags.facts;
  led : Led l.fn.tags l.fn.undos l.tags l.undos;
  told : TagsTold l.fn.undos → TagsTold l.undos;
  idle : NoneLate l.items l.item.name l.changes → Untouched l.fn.steps l.steps l.fn.undos l.undos;
}
