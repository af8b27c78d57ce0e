use Rattle.std.proofs.Common.{ap, ◌∙◌}
use Rattle.fsl_blobs.specs.Seen.{Seen}
use Rattle.fsl_blobs.proofs.NameLists.{listed_items}
use Rattle.fsl_blobs.proofs.blobs.Blobs.announced.Goals as goal

pub returns : goal.returns
returns c =
    c.from_vec.ensures ∙ c.in_ok-names.ensures.names
    ∙ listed_items _ c.args.self.now.announced c.in_ok-names.ensures.ordered (ap (λ (b : Seen). b.announced) c.self.view_is)
