use Rattle.std.proofs.Common.{◌≡◌}
use Rattle.fsl_history.proofs.ticketed.Ticketed.wait.Given as goal

abbrev pub invariant-loop-round : goal.invariant-loop-round
invariant-loop-round g l = (l.chair.table_id ≡ l.fn.chair.table_id) × (l.chair.id ≡ l.fn.chair.id) × (l.chair.me ≡ l.fn.chair.me)
