use Rattle.std.proofs.Common.{◌≡◌, ◌∙◌, cond, map, sym, ap, subst}
use Rattle.std.specs.List.{AllByRecursion}
use Rattle.std.specs.List.Sorted.{IsStrictlySortedBy}
use Rattle.fsl_order.specs.Names.{bytes_cmp, has}
use Rattle.fsl_order.specs.Rows.{ListsChanged}
use Rattle.fsl_table.proofs.Outcomes.{on_ok_map, if_ok_map}
use Rattle.fsl_forum.specs.Held.{AreOf, Rows, facts_of, rows_of}
use Rattle.fsl_forum.specs.Reached.{IsStep}
use Rattle.fsl_forum.specs.Rows.{differing, noted_in, place_of, row_in}
use Rattle.fsl_forum.specs.Threads.{next, next_of, place, threads_row}
use Rattle.fsl_forum.proofs.Noting.{all-noted, names-noted}
use Rattle.fsl_forum.proofs.Stepping.{next-is, row-is, thread-is, kept-put, changed-put}
use Rattle.fsl_forum.proofs.put.put.Goals as goal

pub move_each-changed-requires-clause-rise : goal.move_each-changed-requires-clause-rise
move_each-changed-requires-clause-rise g c =
    let es = c.args.maps.now.posts.held.entries in
    let ends = c.args.maps.now.ends.held.entries in
    let names = c.in-Ok.plan.names in
    let is : c.deref.result.now ≡ map (noted_in (row_in es ends)) names = c.deref.ensures.value ∙ c.in-Ok.ensures.noted in
    subst (IsStrictlySortedBy bytes_cmp) (sym (ap (map (λ n. n.name)) is ∙ names-noted (row_in es ends) names)) c.in-Ok.ensures.rising

pub returns-in-Ok-write-clause-kept : goal.returns-in-Ok-write-clause-kept
returns-in-Ok-write-clause-kept g c =
    let es = c.args.maps.now.posts.held.entries in
    let ends = c.args.maps.now.ends.held.entries in
    let names = c.in-Ok.plan.names in
    let is : c.deref.result.now ≡ map (noted_in (row_in es ends)) names = c.deref.ensures.value ∙ c.in-Ok.ensures.noted in
    let old : Rows = rows_of c.args.maps.now in
    let new : Rows = record { posts = c.write.new.posts.held; followers = c.write.new.followers.held; ends = c.write.new.ends.held; placed = c.move_each-changed.new.placed.held } in
    let kept = c.requires.kept in
    let step : IsStep (facts_of es) c.args.fact.name (next c.args.fact) names c.in-Ok.plan.end =
    subst (λ up. IsStep (facts_of es) c.args.fact.name up names c.in-Ok.plan.end) c.next.ensures (c.in-Ok.ensures.step (facts_of es) kept.followers kept.ends) in
    let same : map (λ n. n.name) c.deref.result.now ≡ names = ap (map (λ n. n.name)) is ∙ names-noted (row_in es ends) names in
    let were : AllByRecursion (λ n. place (facts_of es) n.name ≡ place_of n.row) c.deref.result.now =
    subst (AllByRecursion (λ n. place (facts_of es) n.name ≡ place_of n.row)) (sym is)
    (all-noted (row_in es ends) (λ n. place (facts_of es) n.name ≡ place_of n.row) (λ x. sym (ap place_of (row-is es ends kept.ends x) ∙ thread-is (facts_of es) x)) names) in
    on_ok_map c.move_each-changed.result
    (λ placed. kept-put old new c.args.fact names c.in-Ok.plan.end kept c.in-Ok-write.ensures.posts step c.in-Ok-write.ensures.ends
    (c.in-Ok-write.ensures.followers (next_of (facts_of es)) kept.followers (next-is es c.args.fact.name)) c.in-Ok-write.ensures.ordered
    (subst (λ l. AreOf (λ x. cond (has l x) (place_of (row_in new.posts.entries new.ends.entries x)) (place (facts_of es) x)) new.placed.entries) same (placed (place (facts_of es)) kept.placed were)))
    c.move_each-changed.ensures.placed

pub returns-in-Ok-write-clause-changed : goal.returns-in-Ok-write-clause-changed
returns-in-Ok-write-clause-changed g c =
    let es = c.args.maps.now.posts.held.entries in
    let ends = c.args.maps.now.ends.held.entries in
    let names = c.in-Ok.plan.names in
    let is : c.deref.result.now ≡ map (noted_in (row_in es ends)) names = c.deref.ensures.value ∙ c.in-Ok.ensures.noted in
    let old : Rows = rows_of c.args.maps.now in
    let new : Rows = record { posts = c.write.new.posts.held; followers = c.write.new.followers.held; ends = c.write.new.ends.held; placed = c.move_each-changed.new.placed.held } in
    let kept = c.requires.kept in
    let step : IsStep (facts_of es) c.args.fact.name (next c.args.fact) names c.in-Ok.plan.end =
    subst (λ up. IsStep (facts_of es) c.args.fact.name up names c.in-Ok.plan.end) c.next.ensures (c.in-Ok.ensures.step (facts_of es) kept.followers kept.ends) in
    if_ok_map c.move_each-changed.result
    (λ changed e. subst (ListsChanged (threads_row (facts_of es)) (threads_row (facts_of new.posts.entries))) (sym (e ∙ ap (differing (row_in new.posts.entries new.ends.entries)) is))
    (changed-put old new c.args.fact names c.in-Ok.plan.end kept c.in-Ok-write.ensures.posts step c.in-Ok-write.ensures.ends c.in-Ok.ensures.rising))
    c.move_each-changed.ensures.changed
