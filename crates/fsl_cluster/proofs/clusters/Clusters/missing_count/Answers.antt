use Rattle.std.proofs.Common.{◌∙◌, ap, length}
use Rattle.fsl_cluster.specs.Kept.{tables_in}
use Rattle.fsl_cluster.specs.Clusters.{missing}
use Rattle.fsl_cluster.proofs.Reading.{missing_length}
use Rattle.fsl_cluster.proofs.clusters.Clusters.missing_count.Goals as goal

pub returns : goal.returns
returns c = c.len.ensures.len ∙ ap (λ t. length t.entries) c.map.ensures ∙ missing_length (tables_in c.self.inside.maps) c.self.invariant ∙ ap (λ h. length (missing h.facts)) c.self.view_is
