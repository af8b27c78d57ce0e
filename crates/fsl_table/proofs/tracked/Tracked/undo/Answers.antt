use Rattle.std.proofs.Common.{sym, subst}
use Rattle.fsl_table.specs.Undo.{IsAsGood}
use Rattle.fsl_table.proofs.Steps.{undoes-good}
use Rattle.fsl_table.proofs.tracked.Tracked.undo.Goals as goal

pub invariant_of-self : goal.invariant_of-self
invariant_of-self g c =
    undoes-good g.K.Ord.cmp c.way.inside.log c.way.inside.held.value c.self.inside.map c.way.inside.was.value
    (subst (λ w. IsAsGood w.held c.self.inside.map) (sym c.way.view_is) (subst (λ t. IsAsGood c.args.way.held t.held) (sym c.self.view_is) c.requires))
    c.way.invariant
