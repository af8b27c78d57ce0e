use Rattle.std.proofs.Common.{◌≡◌, List, [], ◌++◌, sym, ap, ◌∙◌}
use Rattle.std.specs.List.{cons_option}
use Rattle.fsl_forum.specs.declared.Fact.{Fact}
use Rattle.fsl_forum.specs.Threads.{place}
use Rattle.fsl_cross.specs.Tables as cross
use Rattle.fsl_query.proofs.NoteLemmas.{given_front}
use Rattle.fsl_query.proofs.summing.threads_of.Goals as goal

pub loop-name-preserved : goal.loop-name-preserved
loop-name-preserved c =
    let t = cross.tables c.args.tables.now.fields c.args.tables.now.items in
    let root : c.place.result ≡ place t.threads c.name-item.result = c.place.ensures ∙ ap (λ (facts : List Fact). place facts c.name-item.result) c.forum.ensures.facts in
    c.in_ok-append_thread.ensures ∙ (λ i. c.loop-name.invariant i ++ cons_option (root i) [])
    ∙ sym (given_front (place t.threads) c.args.posts.now c.loop-name.name-index c.name-item.result c.loop-name-test.true c.name-item.is)
