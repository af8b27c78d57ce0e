use Rattle.std.proofs.Common.{arith}
use Rattle.fsl_disk.proofs.fuse.spend.Goals as goal

pub returns-then-calls-eq0-clause-rose : goal.returns-then-calls-eq0-clause-rose
returns-then-calls-eq0-clause-rose c = omega (arith, c.saturating_add.ensures)
