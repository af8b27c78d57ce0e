use Rattle.std.proofs.Common.{◌≡◌, Ok, ap, sym, ◌∙◌}
use Rattle.fsl_cross.specs.Tables as cross
use Rattle.fsl_query.proofs.Outcomes.{if_ok_map}
use Rattle.fsl_repo.specs.Machine.{now}
use Rattle.fsl_query.specs.Listings.{pages_report}
use Rattle.fsl_query.specs.Reports.{tables_now}
use Rattle.fsl_query.proofs.RepoLemmas.{own_pages}
use Rattle.fsl_query.proofs.answering.pages_of.Goals as goal

pub pages_by-requires : goal.pages_by-requires
pages_by-requires g c =
    let own = c.tables-tables.ensures in
    own_pages c.args.repo.now.seen c.is_whole.ensures.seen.items c.items.result.now (c.items.ensures ∙ own.items)
    ∙ sym (c.wiki.ensures.facts ∙ (λ i. (cross.tables (own.fields i) (own.items i)).pages))

pub returns : goal.returns
returns g c =
    let own = c.tables-tables.ensures in
    let t = tables_now (now c.args.repo.now.seen.state) c.args.repo.now.seen.items in
    let facts : c.wiki.result.now.facts ≡ t.pages = c.wiki.ensures.facts ∙ (λ i. (cross.tables (own.fields i) (own.items i)).pages) in
    if_ok_map c.pages_by.result (λ text is. sym (ap Ok (is ∙ ap pages_report facts))) c.pages_by.ensures
