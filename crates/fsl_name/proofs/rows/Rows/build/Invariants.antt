use Rattle.std.proofs.Common.{◌≡◌, ◌≤◌, drop, length}
use Rattle.fsl_order.specs.Rows.{by_name}
use Rattle.fsl_name.proofs.rows.Rows.build.Given as goal

-- the rows behind those that are left are built
abbrev pub invariant-loop-left : goal.invariant-loop-left
invariant-loop-left g l = record {
  done : l.built ≡ by_name g.F.Named.name (drop l.left l.rows);
  within : l.left ≤ length l.rows;
}

abbrev pub decreases-loop-left : goal.decreases-loop-left
decreases-loop-left g l = l.left
