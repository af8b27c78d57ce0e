use Rattle.std.proofs.Common.{◌∙◌, map, ap, subst}
use Rattle.std.specs.List.Sorted.{IsStrictlySortedBy}
use Rattle.fsl_order.specs.Names.{bytes_cmp}
use Rattle.fsl_name.proofs.RowsKeeping.{names-kept}
use Rattle.fsl_name.proofs.rows.Rows.iter.Goals as goal

pub returns-clause-rising : goal.returns-clause-rising
returns-clause-rising g c =
    subst (IsStrictlySortedBy bytes_cmp) (names-kept g.F.Named.name c.self.inside.tree.entries c.self.invariant.named ∙ ap (map g.F.Named.name) c.self.view_is) c.self.invariant.rising
