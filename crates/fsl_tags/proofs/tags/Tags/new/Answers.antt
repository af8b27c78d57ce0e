use Rattle.fsl_tags.specs.Held.{rows_of}
use Rattle.fsl_tags.proofs.Filling.{kept_none}
use Rattle.fsl_tags.proofs.tags.Tags.new.Goals as goal

pub invariant_of-result : goal.invariant_of-result
invariant_of-result c = kept_none (rows_of c.new.result) c.new.ensures.facts c.new.ensures.children c.new.ensures.own c.new.ensures.rows
