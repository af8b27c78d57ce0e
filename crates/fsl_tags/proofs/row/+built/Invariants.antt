use Rattle.std.proofs.Common.{length}
use Rattle.fsl_tags.proofs.row.+built.Given as goal

abbrev pub decreases-built : goal.decreases-built
decreases-built l = length l.items.now
