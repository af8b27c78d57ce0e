use Rattle.std.proofs.Common.{◌≡◌, IfOk, subst, ◌∙◌}
use Rattle.fsl_cross.specs.Checkins.{branch, tags_facts}
use Rattle.fsl_cross.specs.Inside.{branch_over}
use Rattle.fsl_cross.specs.Tables as cross
use Rattle.fsl_repo.specs.Machine.{now}
use Rattle.fsl_query.specs.Reports.{leaves_report, tables_now}
use Rattle.fsl_query.proofs.answering.leaves_of.Goals as goal

pub returns : goal.returns
returns g c =
    let items = c.args.repo.now.seen.items in
    let t = tables_now (now c.args.repo.now.seen.state) items in
    let own = c.tables-tables.ensures in
    let found = c.report.result in
    let tagged : c.tags.result.now.facts ≡ tags_facts items = c.tags.ensures.own ∙ (λ i. tags_facts (own.items i)) in
    let ended : c.leaves.result.now.facts ≡ t.leaves = c.leaves.ensures.facts ∙ (λ i. (cross.tables (own.fields i) (own.items i)).leaves) in
    subst (λ facts. IfOk found (λ text. text ≡ leaves_report (branch items) facts)) ended
    (subst (λ facts. IfOk found (λ text. text ≡ leaves_report (branch_over facts) c.leaves.result.now.facts)) tagged c.report.ensures)
