use Rattle.std.proofs.Common.{sym, subst}
use Rattle.fsl_cluster.specs.Kept.{IsKept}
use Rattle.fsl_cluster.proofs.Canonical.{kept_none}
use Rattle.fsl_cluster.proofs.clusters.Clusters.new.Goals as goal

pub invariant_of-result : goal.invariant_of-result
invariant_of-result c = subst IsKept (sym c.of.ensures) (kept_none c.new.result c.new.ensures.facts c.new.ensures.members c.new.ensures.refs c.new.ensures.unclustered c.new.ensures.missing)
