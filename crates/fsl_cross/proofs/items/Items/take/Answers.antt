use Rattle.std.proofs.Common.{◌∙◌, ap, sym, subst}
use Rattle.std.specs.Map.{values_of}
use Rattle.fsl_name.specs.RowsKept.{IsKept}
use Rattle.fsl_cross.specs.Tables.{without}
use Rattle.fsl_cross.proofs.Marking.{kept-remove, values-remove}
use Rattle.fsl_cross.proofs.Moved.{item_name}
use Rattle.fsl_cross.proofs.items.Items.take.Goals as goal

pub invariant_of-self : goal.invariant_of-self
invariant_of-self c = subst (IsKept item_name) (sym c.remove-old.ensures.entries) (kept-remove item_name c.args.name c.self.inside.tree.entries c.self.invariant)

pub returns : goal.returns
returns c =
    ap values_of c.remove-old.ensures.entries ∙ values-remove item_name c.args.name c.self.inside.tree.entries c.self.invariant
    ∙ ap (without c.args.name) c.self.view_is
