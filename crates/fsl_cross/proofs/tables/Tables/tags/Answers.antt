use Rattle.std.proofs.Common.{ap, ◌∙◌}
use Rattle.fsl_order.specs.Rows.{by_name}
use Rattle.fsl_cross.specs.Checkins.{tags_facts}
use Rattle.fsl_cross.specs.Tables.{Seen, item_set}
use Rattle.fsl_cross.proofs.Alone.{tags-alone}
use Rattle.fsl_cross.proofs.tables.Tables.tags.Goals as goal

pub returns : goal.returns
returns c =
    let items = c.self.inside.items in
    record {
      own = c.self.invariant.history.tags ∙ ap (λ (s : Seen). tags_facts s.items) c.self.view_is;
      facts = c.self.invariant.history.tags ∙ tags-alone items c.self.invariant.rising ∙ ap (λ (s : Seen). by_name (λ f. f.name) (tags_facts (item_set s.items))) c.self.view_is;
    }
