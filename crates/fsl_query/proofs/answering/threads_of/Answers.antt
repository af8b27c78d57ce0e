use Rattle.std.proofs.Common.{◌≡◌, Ok, ap, sym, ◌∙◌}
use Rattle.fsl_cross.specs.Tables as cross
use Rattle.fsl_query.proofs.Outcomes.{if_ok_map}
use Rattle.fsl_timeline.specs.Timeline.{timeline}
use Rattle.fsl_repo.specs.Machine.{now}
use Rattle.fsl_query.specs.Listings.{threads_report}
use Rattle.fsl_query.specs.Reports.{tables_now}
use Rattle.fsl_query.proofs.RepoLemmas.{own_posts}
use Rattle.fsl_query.proofs.answering.threads_of.Goals as goal

pub threads_by-requires : goal.threads_by-requires
threads_by-requires g c =
    let own = c.tables-tables.ensures in
    own_posts c.args.repo.now.seen c.is_whole.ensures.seen.items c.items.result.now (c.items.ensures ∙ own.items)
    ∙ sym (c.forum.ensures.facts ∙ (λ i. (cross.tables (own.fields i) (own.items i)).threads))

pub returns : goal.returns
returns g c =
    let own = c.tables-tables.ensures in
    let t = tables_now (now c.args.repo.now.seen.state) c.args.repo.now.seen.items in
    let facts : c.forum.result.now.facts ≡ t.threads = c.forum.ensures.facts ∙ (λ i. (cross.tables (own.fields i) (own.items i)).threads) in
    let rows : c.timeline.result.now.facts ≡ t.timeline = c.timeline.ensures.facts ∙ (λ i. (cross.tables (own.fields i) (own.items i)).timeline) in
    if_ok_map c.threads_by.result (λ text is. sym (ap Ok (is ∙ (λ i. threads_report (facts i) (timeline (rows i)))))) c.threads_by.ensures
