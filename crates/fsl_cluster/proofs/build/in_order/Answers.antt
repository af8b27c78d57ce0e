use Rattle.std.proofs.Common.{subst}
use Rattle.std.specs.Prelude.{IsPermutation}
use Rattle.fsl_cluster.proofs.build.in_order.Goals as goal

pub returns : goal.returns
returns c = subst (λ l. IsPermutation l c.sort_unstable_by.new.self.items) c.into_vec-ordered.ensures c.sort_unstable_by.ensures.permutation
