use Rattle.std.proofs.Common.{ap, ◌∙◌}
use Rattle.fsl_order.specs.Rows.{by_name}
use Rattle.fsl_cross.specs.Tables.{Seen, files_facts, item_set}
use Rattle.fsl_cross.proofs.Alone.{files-alone}
use Rattle.fsl_cross.proofs.tables.Tables.files.Goals as goal

pub returns : goal.returns
returns c =
    let items = c.self.inside.items in
    let rise = c.self.invariant.rising in
    record {
      facts =
          c.self.invariant.contents.files
          ∙ files-alone items rise
          ∙ ap (λ (s : Seen). by_name (λ f. f.name) (files_facts (item_set s.items))) c.self.view_is;
    }
