use Rattle.std.proofs.Common.{ap, ◌∙◌}
use Rattle.fsl_cluster.specs.Clusters.{unclustered}
use Rattle.fsl_cross.specs.Tables.{tables}
use Rattle.fsl_repo.specs.Machine.{now}
use Rattle.fsl_repo.proofs.Clusterings.{clusters_are}
use Rattle.fsl_pull.proofs.local.unclustered.Goals as goal

pub returns-in-Ok : goal.returns-in-Ok
returns-in-Ok g c =
    let seen = c.args.repo.now.seen in
    c.in-Ok.ensures
    ∙ ap unclustered (c.cluster.ensures.facts ∙ (λ i. (tables c.tables.result.now.fields (c.tables.ensures.items i)).clusters) ∙ clusters_are (now seen.state).held seen.items c.tables.result.now.fields (c.is_whole.ensures.seen).items)
