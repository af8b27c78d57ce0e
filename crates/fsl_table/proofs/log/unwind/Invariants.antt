use Rattle.std.proofs.Common.{◌≡◌, ◌+◌, length}
use Rattle.fsl_table.specs.Undo.{IsAsGood, CanUndo, undone}
use Rattle.fsl_table.proofs.log.unwind.Given as goal

-- what is left can be undone, and leads to the end
abbrev pub invariant-loop-step : goal.invariant-loop-step
invariant-loop-step g l = record {
  can : CanUndo g.K.Ord.cmp l.log l.table;
  cost : l.steps + length l.log ≡ l.fn.steps + length l.fn.log;
  leads : IsAsGood (undone g.K.Ord.cmp l.fn.log l.fn.table) (undone g.K.Ord.cmp l.log l.table);
}

abbrev pub decreases-loop-step : goal.decreases-loop-step
decreases-loop-step g l = length l.log
