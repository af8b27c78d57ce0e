use Rattle.std.proofs.Common.{◌∙◌, sym, ap}
use Rattle.std.specs.Prelude.{option_map}
use Rattle.std.specs.BTreeMap.{insert_entry}
use Rattle.fsl_order.specs.Names.{dated_cmp}
use Rattle.fsl_forum.specs.Held.{fact_of}
use Rattle.fsl_forum.specs.Rows.{with_post}
use Rattle.fsl_forum.proofs.Stepping.{post-is}
use Rattle.fsl_forum.proofs.gathered.gather_one.Goals as goal

pub returns-in_default : goal.returns-in_default
returns-in_default g c = sym (ap (λ o. with_post o c.args.thread.now.entries) (post-is c.args.posts.now.held.entries c.args.name ∙ ap (option_map (λ n. fact_of (c.args.name, n))) (sym c.in_default.ensures.value)))

pub returns-in-Ok : goal.returns-in-Ok
returns-in-Ok g c =
    let es = c.args.thread.now.entries in
    let node = c.in-Some.node.now in
    c.in-Ok.ensures.entries ∙ ap (insert_entry dated_cmp es (node.date, c.args.name)) c.in_ok-post.ensures
    ∙ sym (ap (λ o. with_post o es) (post-is c.args.posts.now.held.entries c.args.name ∙ ap (option_map (λ n. fact_of (c.args.name, n))) (sym c.in-Some.ensures.value)))
