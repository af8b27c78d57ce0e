use Rattle.std.proofs.Common.{take}
use Rattle.fsl_cross.specs.Mixed.{GoesOn, leaves_mixed, pushed, is_other_checkin, all_changed}
use Rattle.fsl_cross.specs.Touches.{NoneRetagged, Untouched}
use Rattle.fsl_cross.specs.Trails.{Led}
use Rattle.fsl_cross.proofs.change.leaves.retag_changed.Given as goal

-- the names that were passed are done
abbrev pub invariant-loop-change : goal.invariant-loop-change
invariant-loop-change g l = record {
  facts : GoesOn (leaves_mixed l.items l.item.name) (pushed (is_other_checkin l.items l.item.name) (all_changed (take l.change-index l.changes))) l.fn.leaves.facts l.leaves.facts;
  led : Led l.fn.leaves l.fn.undos l.leaves l.undos;
  idle : NoneRetagged l.items l.item.name l.changes → Untouched l.fn.steps l.steps l.fn.undos l.undos;
}
