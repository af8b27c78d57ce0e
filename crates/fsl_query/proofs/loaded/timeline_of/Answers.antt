use Rattle.std.proofs.Common.{◌≡◌, IfOk, subst}
use Rattle.fsl_query.specs.Reports.{timeline_report}
use Rattle.fsl_query.proofs.loaded.timeline_of.Goals as goal

pub returns : goal.returns
returns c fields = subst (λ rows. IfOk c.report-text.result (λ text. text ≡ timeline_report rows c.args.count)) (c.in_ok-table.ensures fields) c.report-text.ensures
