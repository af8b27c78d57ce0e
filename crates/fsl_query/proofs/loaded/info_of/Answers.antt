use Rattle.std.proofs.Common.{ap, ◌∙◌}
use Rattle.fsl_blobs.specs.Fold.{contents}
use Rattle.fsl_query.specs.Info.{info_told}
use Rattle.fsl_query.proofs.Outcomes.{if_ok_map}
use Rattle.fsl_query.proofs.loaded.info_of.Goals as goal

pub returns : goal.returns
returns c = if_ok_map c.info_by.result (λ text is. is ∙ ap (info_told (contents c.args.blobs.now.records)) c.in_ok-wanted.ensures) c.info_by.ensures
