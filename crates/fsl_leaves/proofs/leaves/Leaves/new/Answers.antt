use Rattle.fsl_leaves.specs.Kept.{rows_of}
use Rattle.fsl_leaves.proofs.Canonical.{kept_none}
use Rattle.fsl_leaves.proofs.leaves.Leaves.new.Goals as goal

pub invariant_of-result : goal.invariant_of-result
invariant_of-result c = kept_none (rows_of c.new.result) c.new.ensures.facts c.new.ensures.children c.new.ensures.leaves
