use Rattle.std.proofs.Common.{vec_len}
use Rattle.fsl_name.proofs.RowsBuilt.{IsPutIn}
use Rattle.fsl_name.proofs.rows.Rows.of.Given as goal

-- those behind the ones that are left are built
abbrev pub invariant-loop-row : goal.invariant-loop-row
invariant-loop-row g l = IsPutIn g.F.Named.name l.left.items l.fn.rows l.built

abbrev pub decreases-loop-row : goal.decreases-loop-row
decreases-loop-row g l = vec_len l.left
