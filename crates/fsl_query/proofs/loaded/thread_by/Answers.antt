use Rattle.std.proofs.Common.{sym, subst}
use Rattle.std.proofs.lemmas.Result.{err_from_is_err_and}
use Rattle.fsl_query.specs.declared.Refused.TheVariants as refused_as
use Rattle.fsl_query.specs.Answers.{IsAnswer}
use Rattle.fsl_query.specs.Listings.{thread_names}
use Rattle.fsl_query.specs.Reports.{thread_report}
use Rattle.fsl_query.proofs.Beginnings.{beginning_err, beginning_one}
use Rattle.fsl_query.proofs.loaded.thread_by.Goals as goal

pub returns-in_err-name : goal.returns-in_err-name
returns-in_err-name c =
    let facts = c.args.table.now.facts in
    let p = err_from_is_err_and c.from_residual.result c.from_residual.ensures.1 in
    rw (p.1, p.2) (beginning_err (thread_report facts) c.args.prefix.now (refused_as.NoThread c.args.prefix.now) (thread_names facts) c.in_err-name.field-0.0 c.in_err-name.ensures)

pub returns : goal.returns
returns c =
    let facts = c.args.table.now.facts in
    let due = beginning_one (thread_report facts) c.args.prefix.now (refused_as.NoThread c.args.prefix.now) (thread_names facts) c.in_ok-name.name c.in_ok-name.ensures in
    subst (λ d. IsAnswer d c.report.result) (sym due) c.report.ensures
