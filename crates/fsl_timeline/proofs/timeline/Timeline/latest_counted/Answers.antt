use Rattle.std.proofs.Common.{◌≡◌, ◌∙◌, take, sym, ap, subst}
use Rattle.std.proofs.lemmas.Result.{IfOk-weaker}
use Rattle.std.specs.List.Sorted.{IsStrictlySortedBy}
use Rattle.std.specs.Map.{keys_of}
use Rattle.fsl_order.specs.Names.{latest_first}
use Rattle.fsl_timeline.specs.Kept.{rows_at, rows_in}
use Rattle.fsl_timeline.specs.Timeline.{timeline}
use Rattle.fsl_timeline.proofs.Timelines.{timeline_is}
use Rattle.fsl_timeline.proofs.timeline.Timeline.latest_counted.Goals as goal

pub first_rows-requires : goal.first_rows-requires
first_rows-requires g c = subst (λ t. IsStrictlySortedBy latest_first (keys_of t.entries)) (sym c.map-places.ensures) c.self.invariant.places_ordered

pub returns : goal.returns
returns g c =
    let r = rows_in c.self.inside.maps in
    let rows : rows_at c.map-rows.result.now.entries c.map-places.result.now.entries ≡ rows_at r.rows.entries r.places.entries = λ i. rows_at (c.map-rows.ensures i).entries (c.map-places.ensures i).entries in
    IfOk-weaker c.first_rows.result _ _ (λ l e. e ∙ ap (take c.args.count) (rows ∙ timeline_is r c.self.invariant ∙ ap (λ h. timeline h.facts) c.self.view_is)) c.first_rows.ensures.first
