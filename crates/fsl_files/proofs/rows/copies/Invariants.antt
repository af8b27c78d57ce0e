use Rattle.std.proofs.Common.{◌≡◌, take}
use Rattle.fsl_files.proofs.rows.copies.Given as goal

-- the files that were passed are copied
abbrev pub invariant-loop-row : goal.invariant-loop-row
invariant-loop-row l = l.list ≡ take l.row-index l.rows
