use Rattle.std.proofs.Common.{take}
use Rattle.fsl_cross.specs.Mixed.{GoesOn, rows_mixed, pushed, is_other_checkin}
use Rattle.fsl_cross.specs.Touches.{NoneOf, Untouched}
use Rattle.fsl_cross.specs.Trails.{Led}
use Rattle.fsl_cross.proofs.change.rows.retag_each.Given as goal

-- the names that were passed are done
abbrev pub invariant-loop-name : goal.invariant-loop-name
invariant-loop-name g l = record {
  facts : GoesOn (rows_mixed l.items l.item.name) (pushed (is_other_checkin l.items l.item.name) (take l.name-index l.names)) l.fn.timeline.facts l.timeline.facts;
  led : Led l.fn.timeline l.fn.undos l.timeline l.undos;
  idle : NoneOf (is_other_checkin l.items l.item.name) l.names → Untouched l.fn.steps l.steps l.fn.undos l.undos;
}
