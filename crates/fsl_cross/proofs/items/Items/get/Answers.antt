use Rattle.std.proofs.Common.{◌∙◌, ap}
use Rattle.fsl_order.specs.Rows.{named}
use Rattle.fsl_name.proofs.RowsKeeping.{lookup-kept}
use Rattle.fsl_cross.proofs.Moved.{item_name}
use Rattle.fsl_cross.proofs.items.Items.get.Goals as goal

pub returns : goal.returns
returns c = c.get.ensures.value ∙ lookup-kept item_name c.args.name c.self.inside.tree.entries c.self.invariant.named ∙ ap (λ items. named item_name items c.args.name) c.self.view_is
