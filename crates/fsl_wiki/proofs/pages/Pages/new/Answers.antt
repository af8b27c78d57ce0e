use Rattle.fsl_wiki.specs.Kept.{rows_of}
use Rattle.fsl_wiki.proofs.Canonical.{kept_none}
use Rattle.fsl_wiki.proofs.pages.Pages.new.Goals as goal

pub invariant_of-result : goal.invariant_of-result
invariant_of-result c = kept_none (rows_of c.new.result) c.new.ensures.facts c.new.ensures.spots c.new.ensures.targets
