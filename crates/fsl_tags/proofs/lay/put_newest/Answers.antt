use Rattle.std.proofs.Common.{◌≡◌, ◌∙◌, List, ℕ, ap, subst, sym}
use Rattle.fsl_order.specs.Rows.{greater}
use Rattle.fsl_table.proofs.Outcomes.{both_ok, on_ok_map}
use Rattle.fsl_tags.specs.Kept.{newest_of}
use Rattle.fsl_tags.specs.Laid.{Rises, row_in}
use Rattle.fsl_tags.specs.Tags.{newer_cmp}
use Rattle.fsl_tags.proofs.RowsOf.{of_tag}
use Rattle.fsl_tags.proofs.Grouping.{put-rises, put-finds}
use Rattle.fsl_tags.proofs.lay.put_newest.Goals as goal

pub folded-requires : goal.folded-requires
folded-requires g c = subst Rises (sym c.row_of-near.ensures.row) (c.requires.rise c.args.target)

pub returns-clause-kept : goal.returns-clause-kept
returns-clause-kept g c =
    let own = c.args.own.now.held.entries in
    let now = c.put_row.new.rows.held.entries in
    let target = c.args.target in
    let row = c.in_ok-row.row in
    let finds : (t : List ℕ) → of_tag row t ≡ greater newer_cmp (of_tag (row_in own target) t) (newest_of t c.args.group.now) =
    λ t. c.in_ok-row.ensures.newest t ∙ ap (λ l. greater newer_cmp (of_tag l t) (newest_of t c.args.group.now)) c.row_of-near.ensures.row in
    both_ok c.put_row.result
    (λ full put. record { full = full; rise = put-rises target row (λ t. newest_of t c.args.group.now) own now put finds c.in_ok-row.ensures.rises c.requires.rise })
    c.put_row.ensures.full c.put_row.ensures.row

pub returns-clause-own : goal.returns-clause-own
returns-clause-own g c =
    let own = c.args.own.now.held.entries in
    let now = c.put_row.new.rows.held.entries in
    let target = c.args.target in
    let row = c.in_ok-row.row in
    let finds : (t : List ℕ) → of_tag row t ≡ greater newer_cmp (of_tag (row_in own target) t) (newest_of t c.args.group.now) =
    λ t. c.in_ok-row.ensures.newest t ∙ ap (λ l. greater newer_cmp (of_tag l t) (newest_of t c.args.group.now)) c.row_of-near.ensures.row in
    on_ok_map c.put_row.result (λ put. put-finds target row (λ t. newest_of t c.args.group.now) own now put finds) c.put_row.ensures.row
