use Rattle.std.proofs.Common.{Ok, ap, sym, ◌∙◌}
use Rattle.fsl_repo.specs.Machine.{now}
use Rattle.fsl_query.specs.Info.{info_told}
use Rattle.fsl_query.proofs.InfoLemmas.{info_is}
use Rattle.fsl_query.proofs.Outcomes.{if_ok_map}
use Rattle.fsl_query.proofs.answering.info_of.Goals as goal

pub returns : goal.returns
returns g c =
    let k = now c.args.repo.now.seen.state in
    if_ok_map c.report.result
    (λ text is. sym (ap Ok (is
    ∙ info_is k c.config.result.now c.in_ok-sizes.sizes c.in_ok-shunned.shunned c.in_ok-wanted.wanted c.config.ensures c.in_ok-sizes.ensures c.in_ok-shunned.ensures
    ∙ ap (info_told k) c.in_ok-wanted.ensures)))
    c.report.ensures
