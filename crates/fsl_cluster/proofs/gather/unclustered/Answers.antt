use Rattle.std.proofs.Common.{◌∙◌, ap}
use Rattle.fsl_order.specs.Rows.{ascending}
use Rattle.fsl_cluster.proofs.FactLemmas.{free_names}
use Rattle.fsl_cluster.proofs.gather.unclustered.Goals as goal

pub returns : goal.returns
returns c = free_names c.args.facts.now c.in_ok-members.members c.into_list.result c.in_ok-members.ensures (c.into_list.ensures ∙ c.of.ensures ∙ ap ascending c.in_ok-names.ensures)
