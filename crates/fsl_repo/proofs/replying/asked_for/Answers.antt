use Rattle.std.proofs.Common.{◌≡◌, ◌++◌, ap, sym, ◌∙◌, [], true, rules}
use Rattle.std.specs.Prelude.{if◌then◌else◌}
use Rattle.std.specs.FinSet as set
use Rattle.fsl_order.specs.Rows.{ascending}
use Rattle.fsl_blobs.specs.Fold.{contents}
use Rattle.fsl_cluster.specs.Clusters as clusters
use Rattle.fsl_repo.proofs.Sendings.{asked_ascending}
use Rattle.fsl_repo.proofs.replying.asked_for.Goals as goal

pub returns : goal.returns
returns c =
    let wants = clusters.wants c.args.table.now.facts (set.items (contents c.args.blobs.now.records).shunned) in
    let announced = set.items c.args.blobs.now.announced in
    let push : c.args.push ≡ true = search rules in
    c.from_vec.ensures ∙ c.ordered.ensures.names
    ∙ ap ascending (c.in_ok-extend_from_slice.ensures.items
    ∙ (λ i. (c.into_vec-names.ensures ∙ c.in_ok-wanted.ensures) i ++ (c.items.ensures ∙ c.in_ok-announced.ensures) i))
    ∙ asked_ascending wants announced
    ∙ ap (λ b. if b then ascending (wants ++ announced) else []) (sym push)
