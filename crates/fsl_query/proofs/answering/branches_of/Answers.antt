use Rattle.std.proofs.Common.{◌≡◌, Ok, ap, sym, ◌∙◌}
use Rattle.fsl_cross.specs.Checkins.{tags_facts}
use Rattle.fsl_cross.specs.Inside.{branch_over}
use Rattle.fsl_cross.specs.Tables as cross
use Rattle.fsl_query.proofs.Outcomes.{if_ok_map}
use Rattle.fsl_timeline.specs.Timeline.{timeline}
use Rattle.fsl_repo.specs.Machine.{now}
use Rattle.fsl_query.specs.Listings.{branches_report}
use Rattle.fsl_query.specs.Reports.{tables_now}
use Rattle.fsl_query.proofs.answering.branches_of.Goals as goal

pub returns : goal.returns
returns g c =
    let items = c.args.repo.now.seen.items in
    let t = tables_now (now c.args.repo.now.seen.state) items in
    let own = c.tables-tables.ensures in
    let tagged : c.tags.result.now.facts ≡ tags_facts items = c.tags.ensures.own ∙ (λ i. tags_facts (own.items i)) in
    let rows : c.timeline.result.now.facts ≡ t.timeline = c.timeline.ensures.facts ∙ (λ i. (cross.tables (own.fields i) (own.items i)).timeline) in
    if_ok_map c.report.result (λ text is. sym (ap Ok (is ∙ (λ i. branches_report (branch_over (tagged i)) (timeline (rows i)))))) c.report.ensures
