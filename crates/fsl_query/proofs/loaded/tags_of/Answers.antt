use Rattle.std.proofs.Common.{◌≡◌, IfOk, subst}
use Rattle.fsl_query.specs.Reports.{tags_report}
use Rattle.fsl_query.proofs.loaded.tags_of.Goals as goal

pub returns : goal.returns
returns c fields = subst (λ facts. IfOk c.report-text.result (λ text. text ≡ tags_report facts c.args.name)) (c.in_ok-table.ensures.facts fields) c.report-text.ensures
