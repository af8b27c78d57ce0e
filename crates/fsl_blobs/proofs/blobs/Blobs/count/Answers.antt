use Rattle.std.proofs.Common.{ap, ◌∙◌}
use Rattle.fsl_blobs.specs.Seen.{Seen}
use Rattle.fsl_blobs.proofs.HeldLists.{count-held}
use Rattle.fsl_blobs.proofs.blobs.Blobs.count.Goals as goal

pub returns-clause-count : goal.returns-clause-count
returns-clause-count c = c.len.ensures.len ∙ count-held _ _ c.self.invariant.kept.held c.len.ensures.ordered c.args.self.now (ap (λ (b : Seen). b.records) c.self.view_is)
