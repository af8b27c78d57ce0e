use Rattle.std.proofs.Common.{subst}
use Rattle.fsl_query.specs.Answers.{IsAnswer}
use Rattle.fsl_query.specs.Reports.{files_report}
use Rattle.fsl_query.proofs.loaded.files_of.Goals as goal

pub returns : goal.returns
returns c fields = subst (λ facts. IsAnswer (files_report facts c.args.name) c.report-text.result) (c.in_ok-table.ensures fields) c.report-text.ensures
