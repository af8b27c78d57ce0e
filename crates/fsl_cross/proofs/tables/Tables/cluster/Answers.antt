use Rattle.std.proofs.Common.{ap, ◌∙◌}
use Rattle.fsl_order.specs.Rows.{by_name}
use Rattle.fsl_cross.specs.Tables.{Seen, cluster_facts, item_set}
use Rattle.fsl_cross.proofs.Alone.{clusters-alone}
use Rattle.fsl_cross.proofs.tables.Tables.cluster.Goals as goal

pub returns : goal.returns
returns c =
    let items = c.self.inside.items in
    let rise = c.self.invariant.rising in
    record {
      facts =
          c.self.invariant.contents.clusters
          ∙ clusters-alone items rise
          ∙ ap (λ (s : Seen). by_name (λ f. f.name) (cluster_facts (item_set s.items))) c.self.view_is;
    }
