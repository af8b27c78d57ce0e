use Rattle.std.proofs.Common.{◌≡◌, [], length}
use Rattle.fsl_tags.specs.Laid.{Rises, row_in}
use Rattle.fsl_tags.specs.Laying.{down}
use Rattle.fsl_tags.proofs.settle.descend.Given as goal

-- what is left, from this row, makes the whole
abbrev pub invariant-loop-at : goal.invariant-loop-at
invariant-loop-at g l = record {
  whole : down (row_in l.own.held.entries) l.left.items l.row ≡ down (row_in l.own.held.entries) l.fn.names.items [];
  rise : Rises l.row;
}

abbrev pub decreases-loop-at : goal.decreases-loop-at
decreases-loop-at g l = length l.left.items
