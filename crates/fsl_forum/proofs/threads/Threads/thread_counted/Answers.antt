use Rattle.std.proofs.Common.{◌∙◌, ap}
use Rattle.fsl_table.proofs.Outcomes.{if_ok_map}
use Rattle.std.specs.Prelude.{filter_map, map}
use Rattle.fsl_order.specs.Names.{dated_cmp}
use Rattle.fsl_order.specs.Rows.{keyed}
use Rattle.fsl_forum.specs.Held.{facts_of}
use Rattle.fsl_forum.specs.Threads.{post, shown, thread}
use Rattle.fsl_forum.proofs.Gathering.{thread-posts}
use Rattle.fsl_forum.proofs.threads.Threads.thread_counted.Goals as goal

pub returns : goal.returns
returns g c =
    let es = c.self.inside.maps.posts.held.entries in
    if_ok_map c.posts_of.result
    (λ list e.
    e ∙ ap (λ ns. map shown (map (λ e. e.1) (keyed dated_cmp (λ f. (f.date, f.name)) (filter_map (post (facts_of es)) ns)))) (c.items.ensures ∙ c.in_ok-names.ensures.seconds)
    ∙ thread-posts es c.self.inside.maps.placed.held.entries c.args.root c.self.invariant.ordered c.self.invariant.placed ∙ ap (λ h. thread h.facts c.args.root) c.self.view_is)
    c.posts_of.ensures
