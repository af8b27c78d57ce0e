use Rattle.std.proofs.Common.{◌≡◌, ◌∙◌, ◌-◌, ◌+◌, ◌<◌, ◌∷◌, drop, length, sym, ap, arith}
use Rattle.std.proofs.lemmas.List.{drop_more}
use Rattle.std.specs.Prelude.{filter_map, map}
use Rattle.fsl_order.specs.Names.{dated_cmp}
use Rattle.fsl_order.specs.Rows.{keyed}
use Rattle.fsl_forum.specs.Held.{facts_of}
use Rattle.fsl_forum.specs.Rows.{with_post}
use Rattle.fsl_forum.specs.Threads.{post, shown}
use Rattle.fsl_forum.proofs.Gathering.{gathered-more}
use Rattle.fsl_forum.proofs.gathered.gathered.Goals as goal

pub loop-left-preserved : goal.loop-left-preserved
loop-left-preserved g c =
    let names = c.args.names.now in
    let left = c.loop-left.left in
    let name = c.index-names-left.result in
    let facts = facts_of c.args.posts.now.held.entries in
    let within : left - 1 < length names = omega (arith, c.loop-left-test.true, c.loop-left.invariant.within) in
    let one : left - 1 + 1 ≡ left = omega (arith, c.loop-left-test.true) in
    let cut : drop (left - 1) names ≡ name ∷ drop left names = drop_more names (left - 1) name within ∙ (λ i. sym c.index-names-left.is i ∷ drop (one i) names) in
    record {
      done = c.in_ok-gather_one.ensures ∙ ap (with_post (post facts name)) c.loop-left.invariant.done ∙ gathered-more facts name (drop left names)
          ∙ ap (λ ns. map (λ e. (e.0, shown e.1)) (keyed dated_cmp (λ f. (f.date, f.name)) (filter_map (post facts) ns))) (sym cut);
      within = omega (arith, c.loop-left.invariant.within);
    }
