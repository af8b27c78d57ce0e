use Rattle.std.proofs.Common.{take}
use Rattle.fsl_cross.specs.Mixed.{GoesOn, leaves_mixed, pushed, is_other_checkin}
use Rattle.fsl_cross.specs.Touches.{NoneOf, Untouched}
use Rattle.fsl_cross.specs.Trails.{Led}
use Rattle.fsl_cross.proofs.change.leaves.retag_each.Given as goal

-- the names that were passed are done
abbrev pub invariant-loop-name : goal.invariant-loop-name
invariant-loop-name g l = record {
  facts : GoesOn (leaves_mixed l.items l.item.name) (pushed (is_other_checkin l.items l.item.name) (take l.name-index l.names)) l.fn.leaves.facts l.leaves.facts;
  led : Led l.fn.leaves l.fn.undos l.leaves l.undos;
  idle : NoneOf (is_other_checkin l.items l.item.name) l.names → Untouched l.fn.steps l.steps l.fn.undos l.undos;
}
