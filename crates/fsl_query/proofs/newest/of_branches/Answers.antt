use Rattle.std.proofs.Common.{[], ◌++◌, take, sym, ap, subst, ◌∙◌, append-nil}
use Rattle.std.specs.Prelude.{filter_map}
use Rattle.std.specs.List.{cons_option}
use Rattle.fsl_order.specs.Maps.{value_at}
use Rattle.fsl_cross.specs.Inside.{branch_over}
use Rattle.fsl_query.specs.Gathering.{Takes}
use Rattle.fsl_query.specs.Listings.{checkins, dated_checkin, newest}
use Rattle.fsl_query.proofs.ListingLemmas.{no_checkin}
use Rattle.fsl_query.proofs.NewestLemmas.{Dated, taken}
use Rattle.fsl_query.proofs.NoteLemmas.{given_front}
use Rattle.fsl_timeline.specs.declared.Row.{Row}
use Rattle.std.specs.Prelude.{Option}
use Rattle.fsl_query.proofs.newest.of_branches.Goals as goal
use Rattle.fsl_query.proofs.newest.of_branches.Goals.{in-Checkin+in_ok-put, in_default}

pub loop-row-preserved : goal.loop-row-preserved
loop-row-preserved c q =
    let b = branch_over c.args.tags.now.facts in
    let rows = c.args.rows.now in
    let i = c.loop-row.row-index in
    let r = c.row-item.result in
    let h : Row → Option Dated = λ x. dated_checkin (b x.name) x x.kind in
    let more = given_front h rows i r c.loop-row-test.true c.row-item.is in
    elim c.match-row.branch [
      | in-Checkin+in_ok-put w ↦
          (λ j. value_at (w.found-is j).entries q)
          ∙ taken (checkins b (take i rows)) (b r.name, (r.time, r.name)) c.loop-row.found.entries w.put.new.newest.entries c.loop-row.invariant
          (subst (λ k. Takes c.loop-row.found.entries w.put.new.newest.entries (k, (r.time, r.name))) w.branch-tags.ensures w.in_ok-put.ensures) q
          ∙ ap (λ l. newest l q) (sym (more ∙ ap (λ (o : Option Dated). filter_map h (take i rows) ++ cons_option o []) (ap (dated_checkin (b r.name) r) w.in-Checkin.is)))
      | in_default w ↦
          (λ j. value_at (w.found-is j).entries q) ∙ c.loop-row.invariant q
          ∙ ap (λ l. newest l q) (sym (more ∙ ap (λ (o : Option Dated). filter_map h (take i rows) ++ cons_option o []) (no_checkin (b r.name) r r.kind w.in_default.not-Checkin) ∙ append-nil (filter_map h (take i rows))))
    ]
