use Rattle.std.proofs.Common.{[], ◌∷◌, ◌++◌, get_or, map, take, sym, ap, subst, ◌∙◌}
use Rattle.std.proofs.lemmas.List.{map-append, take_more}
use Rattle.fsl_query.specs.Gathering.{Takes}
use Rattle.fsl_query.specs.Listings.{dated_change, newest}
use Rattle.fsl_query.proofs.NewestLemmas.{taken}
use Rattle.fsl_query.proofs.newest.of_tickets.Goals as goal

pub loop-change-preserved : goal.loop-change-preserved
loop-change-preserved c q =
    let changes = c.args.changes.now in
    let i = c.loop-change.change-index in
    let f = c.change-item.result in
    taken (map dated_change (take i changes)) (dated_change f) c.loop-change.found.entries c.put.new.newest.entries c.loop-change.invariant
    (subst (λ k. Takes c.loop-change.found.entries c.put.new.newest.entries (k, (f.date, f.id))) c.text.ensures c.in_ok-put.ensures) q
    ∙ ap (λ l. newest l q)
    (sym (ap (map dated_change) (take_more changes i f c.loop-change-test.true) ∙ map-append dated_change (take i changes) (get_or changes i f ∷ [])
    ∙ ap (λ y. map dated_change (take i changes) ++ dated_change y ∷ []) (sym c.change-item.is)))
