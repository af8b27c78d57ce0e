use Rattle.std.proofs.Common.{take}
use Rattle.fsl_cross.specs.Kinds.{KindsGo}
use Rattle.fsl_cross.specs.Trails.{Led}
use Rattle.fsl_cross.proofs.change.kinds.change_each.Given as goal

-- the names that were passed are done
abbrev pub invariant-loop-name : goal.invariant-loop-name
invariant-loop-name g l = record {
  facts : KindsGo l.items l.item.name (take l.name-index l.names) l.fn.timeline.facts l.timeline.facts;
  led : Led l.fn.timeline l.fn.undos l.timeline l.undos;
}
