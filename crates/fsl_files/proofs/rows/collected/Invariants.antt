use Rattle.std.proofs.Common.{◌≡◌, ◌++◌}
use Rattle.fsl_files.proofs.rows.collected.Given as goal

-- the files that came are copied, and the others are left
abbrev pub invariant-loop-row : goal.invariant-loop-row
invariant-loop-row l =
    (goal.iterator-loop-row).can_next l.row-iterator × (goal.iterator-loop-row).is_finite l.row-iterator
    × (l.list ++ l.row-iterator ≡ l.initial.row-iterator)
