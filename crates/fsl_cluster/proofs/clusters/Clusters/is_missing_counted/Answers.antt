use Rattle.std.proofs.Common.{◌∙◌, ap, sym}
use Rattle.fsl_order.specs.Names.{has}
use Rattle.fsl_cluster.specs.Clusters.{missing}
use Rattle.fsl_cluster.proofs.Reading.{absent_is}
use Rattle.fsl_cluster.proofs.clusters.Clusters.is_missing_counted.Goals as goal

pub returns : goal.returns
returns g c =
    c.is_entered.ensures ∙ c.self.invariant.missing c.args.name ∙ sym (absent_is c.self.inside.maps.facts.held.entries c.args.name) ∙ ap (λ h. has (missing h.facts) c.args.name) c.self.view_is
