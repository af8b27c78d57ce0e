use Rattle.std.proofs.Common.{ap, ◌∙◌}
use Rattle.std.specs.FinSet as set
use Rattle.fsl_blobs.specs.Seen.{Seen}
use Rattle.fsl_blobs.specs.Fold.{contents}
use Rattle.fsl_blobs.proofs.NameLists.{set_items}
use Rattle.fsl_blobs.proofs.blobs.Blobs.shuns.Goals as goal

pub returns : goal.returns
returns c =
    c.from_vec.ensures ∙ c.in_ok-names.ensures.names
    ∙ set_items _ (contents c.args.self.now.records).shunned c.in_ok-names.ensures.ordered (λ q. c.self.invariant.kept.shunned q ∙ ap (λ (b : Seen). set.contains (contents b.records).shunned q) c.self.view_is)
