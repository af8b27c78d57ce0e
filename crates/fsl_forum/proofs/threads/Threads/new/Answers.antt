use Rattle.fsl_forum.specs.Held.{rows_of}
use Rattle.fsl_forum.proofs.Canonical.{kept_none}
use Rattle.fsl_forum.proofs.threads.Threads.new.Goals as goal

pub invariant_of-result : goal.invariant_of-result
invariant_of-result c = kept_none (rows_of c.new.result) c.new.ensures.posts c.new.ensures.followers c.new.ensures.ends c.new.ensures.placed
