use Rattle.std.proofs.Common.{◌≡◌, IfOk, subst}
use Rattle.fsl_cross.specs.Checkins.{branch}
use Rattle.fsl_cross.specs.Inside.{branch_over}
use Rattle.fsl_query.specs.Reports.{leaves_report}
use Rattle.fsl_query.proofs.loaded.leaves_of.Goals as goal

pub returns : goal.returns
returns c fields =
    let found = c.report-text.result in
    let tagged = subst (λ facts. IfOk found (λ text. text ≡ leaves_report (branch_over facts) c.in_ok-tags.table.facts)) c.in_ok-tags.ensures.own c.report-text.ensures in
    subst (λ facts. IfOk found (λ text. text ≡ leaves_report (branch c.args.items.now) facts)) (c.in_ok-tags.ensures.facts fields) tagged
