use Rattle.std.proofs.Common.{◌||◌, ◌∙◌}
use Rattle.fsl_order.specs.Names.{has}
use Rattle.fsl_order.proofs.Booleans.{or_false}
use Rattle.fsl_table.proofs.Outcomes.{on_ok_map}
use Rattle.fsl_cluster.specs.Clusters.{missing}
use Rattle.fsl_cluster.specs.Kept.{is_in}
use Rattle.fsl_cluster.proofs.Canonical.{sorted_none}
use Rattle.fsl_cluster.proofs.build.enter_missing.Goals as goal

pub enter_all-requires : goal.enter_all-requires
enter_all-requires g c = sorted_none c.args.set.now.entries c.requires

pub returns-clause-names : goal.returns-clause-names
returns-clause-names g c =
    on_ok_map c.enter_all.result
    (λ names q. names q ∙ (λ i. has ((c.items.ensures ∙ c.in_ok-names.ensures) i) q || is_in (c.requires i) q) ∙ or_false (has (missing c.args.facts.now) q))
    c.enter_all.ensures.names
