use Rattle.std.proofs.Common.{◌≡◌, ◌++◌, map, ap, ◌∙◌}
use Rattle.std.specs.Prelude.{◌||◌}
use Rattle.fsl_order.specs.Names.{has}
use Rattle.fsl_order.specs.Rows.{ascending}
use Rattle.fsl_cluster.specs.Clusters as clusters
use Rattle.fsl_repo.specs.Replies.{placed_in}
use Rattle.fsl_repo.specs.Sending.{told_public, told_private}
use Rattle.fsl_repo.proofs.Sendings.{told_is}
use Rattle.fsl_repo.proofs.replying.told_names.Goals as goal

pub returns : goal.returns
returns c =
    let held = placed_in c.args.blobs.now.records in
    let public = told_public held (clusters.unclustered c.args.table.now.facts) c.args.all c.args.pull in
    let private = told_private held c.args.private (c.args.pull || c.args.all) in
    let hidden : c.in_ok-hidden.hidden.items ≡ private = c.in_ok-hidden.ensures in
    let names : c.ordered-names.result.items ≡ ascending (public ++ private) =
    c.ordered-names.ensures.names ∙ ap ascending (c.in_ok-extend_from_slice.ensures.items ∙ (λ i. c.in_ok-names.ensures i ++ (c.deref.ensures.value ∙ hidden) i)) in
    c.from_vec.ensures ∙ c.in_ok-list.ensures
    ∙ (λ i. map (λ name. (name, has ((c.deref-3.ensures.value ∙ c.ordered.ensures.names ∙ ap ascending hidden) i) name)) ((c.deref-2.ensures.value ∙ names) i))
    ∙ told_is public private
