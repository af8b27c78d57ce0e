use Rattle.std.proofs.Common.{◌∙◌, ap}
use Rattle.std.proofs.lemmas.Result.{IfOk-weaker}
use Rattle.std.specs.Map.{keys_of}
use Rattle.fsl_cluster.specs.Kept.{tables_in}
use Rattle.fsl_cluster.specs.Clusters.{unclustered}
use Rattle.fsl_cluster.proofs.Reading.{unclustered_are}
use Rattle.fsl_cluster.proofs.clusters.Clusters.unclustered_counted.Goals as goal

pub returns : goal.returns
returns g c = IfOk-weaker c.keys.result _ _ (λ l e. e ∙ ap (λ t. keys_of t.entries) c.map.ensures ∙ unclustered_are (tables_in c.self.inside.maps) c.self.invariant ∙ ap (λ h. unclustered h.facts) c.self.view_is) c.keys.ensures.keys
