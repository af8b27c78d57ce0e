use Rattle.fsl_timeline.specs.Kept.{rows_in}
use Rattle.fsl_timeline.proofs.Canonical.{kept_none}
use Rattle.fsl_timeline.proofs.timeline.Timeline.new.Goals as goal

pub invariant_of-result : goal.invariant_of-result
invariant_of-result c = kept_none (rows_in c.new.result) c.new.ensures.rows c.new.ensures.places
