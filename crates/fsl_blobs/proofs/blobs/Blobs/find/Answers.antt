use Rattle.std.proofs.Common.{ap, ◌∙◌}
use Rattle.fsl_blobs.specs.Seen.{Seen}
use Rattle.fsl_blobs.proofs.HeldLists.{matching-held}
use Rattle.fsl_blobs.proofs.blobs.Blobs.find.Goals as goal

pub returns : goal.returns
returns c =
    c.only_match.ensures.found
    ∙ matching-held _ _ c.self.invariant.kept.held c.only_match.ensures.ordered c.args.self.now c.args.prefix.now (ap (λ (b : Seen). b.records) c.self.view_is)
