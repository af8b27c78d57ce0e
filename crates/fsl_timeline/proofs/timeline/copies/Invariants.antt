use Rattle.std.proofs.Common.{◌≡◌, take}
use Rattle.fsl_timeline.proofs.timeline.copies.Given as goal

-- the rows that were passed are copied
abbrev pub invariant-loop-row : goal.invariant-loop-row
invariant-loop-row l = l.list.items ≡ take l.row-index l.rows
