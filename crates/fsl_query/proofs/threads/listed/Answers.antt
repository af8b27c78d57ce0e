use Rattle.std.proofs.Common.{◌≡◌, ℕ, [], List, map, sym, ap, subst, ◌∙◌}
use Rattle.std.specs.Prelude.{filter_map, find, unwrap_or}
use Rattle.fsl_order.specs.Maps.{value_at}
use Rattle.fsl_order.specs.Rows.{AreDistinct}
use Rattle.fsl_timeline.specs.Timeline.{timeline}
use Rattle.fsl_query.specs.Listings.{names_thread, thread_row, thread_title}
use Rattle.fsl_query.proofs.ListingLemmas.{unwrap_map}
use Rattle.fsl_query.proofs.Outcomes.{if_ok_map}
use Rattle.fsl_query.proofs.ThreadLemmas.{distinct_threads, same_timeline}
use Rattle.fsl_query.proofs.threads.listed.Goals as goal

pub from_rows-requires : goal.from_rows-requires
from_rows-requires c =
    let facts = c.args.table.now.facts in
    let rows = c.args.rows.now in
    let told : (q : List ℕ) → unwrap_or (value_at c.in_ok-titles.titles.entries q) [] ≡ thread_title facts rows q =
    λ q. ap (λ o. unwrap_or o []) (c.in_ok-titles.ensures q) ∙ unwrap_map (λ r. r.text) (find (names_thread facts q) rows) in
    subst (λ l. AreDistinct (map (λ r. r.name) l)) (sym (c.in_ok-list.ensures rows told ∙ ap (filter_map (thread_row facts rows)) c.deref.ensures.value)) (distinct_threads facts rows c.in_ok-names.names.items c.in_ok-names.ensures.rising)

pub returns : goal.returns
returns c =
    let facts = c.args.table.now.facts in
    let rows = c.args.rows.now in
    let told : (q : List ℕ) → unwrap_or (value_at c.in_ok-titles.titles.entries q) [] ≡ thread_title facts rows q =
    λ q. ap (λ o. unwrap_or o []) (c.in_ok-titles.ensures q) ∙ unwrap_map (λ r. r.text) (find (names_thread facts q) rows) in
    let list = c.in_ok-list.ensures rows told ∙ ap (filter_map (thread_row facts rows)) c.deref.ensures.value in
    let distinct = subst (λ l. AreDistinct (map (λ r. r.name) l)) (sym list) (distinct_threads facts rows c.in_ok-names.names.items c.in_ok-names.ensures.rising) in
    if_ok_map c.from_rows.result
    (λ t is. ap timeline is ∙ same_timeline c.in_ok-list.list distinct ∙ ap timeline (list ∙ ap (filter_map (thread_row facts rows)) c.in_ok-names.ensures.names))
    c.from_rows.ensures.facts
