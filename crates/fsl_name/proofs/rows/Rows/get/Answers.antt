use Rattle.std.proofs.Common.{◌∙◌, ap}
use Rattle.fsl_order.specs.Rows.{named}
use Rattle.fsl_name.proofs.RowsKeeping.{lookup-kept}
use Rattle.fsl_name.proofs.rows.Rows.get.Goals as goal

pub returns : goal.returns
returns g c = c.get.ensures.value ∙ lookup-kept g.F.Named.name c.args.name c.self.inside.tree.entries c.self.invariant.named ∙ ap (λ rows. named g.F.Named.name rows c.args.name) c.self.view_is
