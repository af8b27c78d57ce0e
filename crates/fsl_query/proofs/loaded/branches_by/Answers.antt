use Rattle.std.proofs.Common.{◌≡◌, IfOk, subst}
use Rattle.fsl_cross.specs.Inside.{branch_over}
use Rattle.fsl_timeline.specs.Timeline.{timeline}
use Rattle.fsl_query.specs.Listings.{branches_report}
use Rattle.fsl_query.proofs.loaded.branches_by.Goals as goal

pub returns : goal.returns
returns c = subst (λ facts. IfOk c.report-text.result (λ text. text ≡ branches_report (branch_over facts) (timeline c.args.rows.now.facts))) c.in_ok-tags.ensures.own c.report-text.ensures
