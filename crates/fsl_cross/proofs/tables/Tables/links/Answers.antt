use Rattle.std.proofs.Common.{sym, ap, ◌∙◌}
use Rattle.fsl_order.specs.Rows.{by_name}
use Rattle.fsl_cross.specs.Checkins.{links_facts}
use Rattle.fsl_cross.specs.Tables.{Seen, item_set}
use Rattle.fsl_cross.proofs.FactLemmas.{set-rising, links-by_name}
use Rattle.fsl_cross.proofs.tables.Tables.links.Goals as goal

pub returns : goal.returns
returns c =
    let items = c.self.inside.items in
    let rise = c.self.invariant.rising in
    record {
      facts =
          c.self.invariant.history.links
          ∙ sym (ap (λ set. by_name (λ f. f.name) (links_facts set)) (set-rising items rise) ∙ links-by_name items rise)
          ∙ ap (λ (s : Seen). by_name (λ f. f.name) (links_facts (item_set s.items))) c.self.view_is;
    }
