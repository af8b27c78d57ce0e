use Rattle.std.proofs.Common.{ap, ◌∙◌}
use Rattle.fsl_blobs.specs.Seen.{Seen}
use Rattle.fsl_blobs.proofs.HeldLists.{bare-held}
use Rattle.fsl_blobs.proofs.NameLists.{private_items}
use Rattle.fsl_blobs.proofs.blobs.Blobs.privates.Goals as goal

pub returns : goal.returns
returns c =
    c.from_vec.ensures ∙ c.in_ok-names.ensures.names
    ∙ private_items _ _ (bare-held _ _ c.self.invariant.kept.held c.in_ok-names.ensures.ordered c.args.self.now (ap (λ (b : Seen). b.records) c.self.view_is))
