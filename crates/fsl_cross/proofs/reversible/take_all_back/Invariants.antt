use Rattle.std.proofs.Common.{length}
use Rattle.fsl_cross.specs.Trails.{LeadsBy}
use Rattle.fsl_cross.proofs.reversible.take_all_back.Given as goal

-- what the changes led from, those that are left lead from
abbrev pub invariant-loop-undo : goal.invariant-loop-undo
invariant-loop-undo g l =
    (first : g.T.Reversible.State) → LeadsBy g.T.Reversible.is_good g.T.Reversible.before g.T.Reversible.after first l.fn.undos (g.T.Reversible.seen l.fn.table)
    → LeadsBy g.T.Reversible.is_good g.T.Reversible.before g.T.Reversible.after first l.left.items (g.T.Reversible.seen l.table)

abbrev pub decreases-loop-undo : goal.decreases-loop-undo
decreases-loop-undo g l = length l.left.items
