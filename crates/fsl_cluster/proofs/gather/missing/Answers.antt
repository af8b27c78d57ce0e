use Rattle.std.proofs.Common.{◌∙◌, ap}
use Rattle.fsl_order.specs.Names.{has}
use Rattle.fsl_order.specs.Rows.{ascending}
use Rattle.fsl_order.proofs.AscendingLemmas.{has-ascending}
use Rattle.fsl_cluster.specs.Clusters.{names}
use Rattle.fsl_cluster.proofs.FactLemmas.{absent_names}
use Rattle.fsl_cluster.proofs.gather.missing.Goals as goal

pub returns : goal.returns
returns c =
    let held = c.of-held.result in
    absent_names c.args.facts.now (has held) c.into_list.result
    (λ q. ap (λ l. has l q) (c.of-held.ensures ∙ ap ascending c.in_ok-held_names.ensures) ∙ has-ascending (names c.args.facts.now) q)
    (c.into_list.ensures ∙ c.of.ensures ∙ ap ascending c.in_ok-found.ensures)
