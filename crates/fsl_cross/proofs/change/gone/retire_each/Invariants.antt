use Rattle.std.proofs.Common.{◌≡◌, ℕ, List, false, take}
use Rattle.fsl_order.specs.Names.{has}
use Rattle.fsl_cross.specs.Gone.{RowsGone, has_row}
use Rattle.fsl_cross.specs.Trails.{Led}
use Rattle.fsl_cross.proofs.change.gone.retire_each.Given as goal

-- the names that were passed are done, and the others have a row where they had one
abbrev pub invariant-loop-name : goal.invariant-loop-name
invariant-loop-name g l = record {
  facts : RowsGone l.items l.item.name (take l.name-index l.names) l.fn.timeline.facts l.timeline.facts;
  others : (q : List ℕ) → has (take l.name-index l.names) q ≡ false → has_row l.timeline.facts q ≡ has_row l.fn.timeline.facts q;
  led : Led l.fn.timeline l.fn.undos l.timeline l.undos;
}
