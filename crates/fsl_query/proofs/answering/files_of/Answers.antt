use Rattle.std.proofs.Common.{◌≡◌, refl, ap, sym, subst, ◌∙◌}
use Rattle.fsl_cross.specs.Tables as cross
use Rattle.fsl_repo.specs.Machine.{now}
use Rattle.fsl_query.specs.Answers.{IsAnswer}
use Rattle.fsl_query.specs.Reports.{files_report, tables_now}
use Rattle.fsl_query.proofs.Prefixes.{of_one}
use Rattle.fsl_query.proofs.answering.files_of.Goals as goal

pub returns : goal.returns
returns g c =
    let s = now c.args.repo.now.seen.state in
    let t = tables_now s c.args.repo.now.seen.items in
    let name = c.in_ok-name.name in
    let facts : c.files.result.now.facts ≡ t.files = c.files.ensures.facts ∙ (λ i. (cross.tables (c.tables.ensures.fields i) (c.tables.ensures.items i)).files) in
    let due = of_one s c.args.prefix.now c.args.prefix.now name (files_report t.files) refl c.in_ok-name.ensures in
    subst (λ d. IsAnswer d c.report.result) (ap (λ fs. files_report fs name) facts ∙ sym due) c.report.ensures
