use Rattle.std.proofs.Common.{◌∙◌}
use Rattle.fsl_blobs.specs.Fold.{contents}
use Rattle.fsl_query.proofs.InfoLemmas.{info_is}
use Rattle.fsl_query.proofs.Outcomes.{if_ok_map}
use Rattle.fsl_query.proofs.loaded.info_by.Goals as goal

pub returns : goal.returns
returns c =
    let k = contents c.args.blobs.now.records in
    if_ok_map c.report.result
    (λ text is. is ∙ info_is k c.config.result.now c.in_ok-sizes.sizes c.in_ok-shunned.shunned c.args.wanted c.config.ensures c.in_ok-sizes.ensures c.in_ok-shunned.ensures) c.report.ensures
