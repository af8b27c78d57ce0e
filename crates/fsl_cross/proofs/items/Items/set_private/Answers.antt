use Rattle.std.proofs.Common.{◌∙◌, ap, sym, subst, map}
use Rattle.std.specs.Map.{values_of}
use Rattle.fsl_name.specs.RowsKept.{IsKept}
use Rattle.fsl_cross.specs.Marks.{private_at}
use Rattle.fsl_cross.proofs.Marking.{kept-marked, values-marked}
use Rattle.fsl_cross.proofs.Moved.{item_name}
use Rattle.fsl_cross.proofs.items.Items.set_private.Goals as goal

pub invariant_of-self : goal.invariant_of-self
invariant_of-self c = subst (IsKept item_name) (sym c.mark.ensures) (kept-marked c.args.name c.args.private c.self.inside.tree.entries c.self.invariant)

pub returns : goal.returns
returns c =
    ap values_of c.mark.ensures ∙ values-marked c.args.name c.args.private c.self.inside.tree.entries c.self.invariant.named
    ∙ ap (map (private_at c.args.name c.args.private)) c.self.view_is
