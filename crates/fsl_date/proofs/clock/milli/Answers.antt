use Rattle.std.proofs.Common.{sym}
use Rattle.fsl_date.proofs.Shapes.{no_fraction}
use Rattle.fsl_date.proofs.clock.milli.Goals as goal

pub returns-else-text-eq23 : goal.returns-else-text-eq23
returns-else-text-eq23 c = sym (no_fraction c.args.text.now c.requires c.if-text-eq23.false)
