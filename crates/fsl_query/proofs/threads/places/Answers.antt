use Rattle.std.proofs.Common.{[], ◌++◌, sym, ◌∙◌}
use Rattle.std.specs.List.{cons_option}
use Rattle.fsl_forum.specs.Threads.{place}
use Rattle.fsl_query.proofs.NoteLemmas.{given_front}
use Rattle.fsl_query.proofs.threads.places.Goals as goal

pub loop-post-preserved : goal.loop-post-preserved
loop-post-preserved c =
    c.in_ok-append_thread.ensures ∙ (λ i. c.loop-post.invariant i ++ cons_option (c.place.ensures i) [])
    ∙ sym (given_front (λ f. place c.args.table.now.facts f.name) c.args.posts.now c.loop-post.post-index c.post-item.result c.loop-post-test.true c.post-item.is)
