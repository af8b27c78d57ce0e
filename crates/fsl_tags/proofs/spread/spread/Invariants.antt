use Rattle.std.proofs.Common.{◌+◌, length, ◌≡◌, [], ◌∷◌, ◌⊎◌}
use Rattle.fsl_tags.specs.InMaps.{AreOnly, IsBrief, IsTakenDown, StayNoted, kids_of, left_to_do, notes}
use Rattle.fsl_tags.specs.Laid.{AreFull}
use Rattle.fsl_tags.proofs.spread.spread.Given as goal

-- the names that wait are right, and their children are still to follow
abbrev pub invariant-loop-at : goal.invariant-loop-at
invariant-loop-at g l = record {
  full : AreFull l.flow.rows.held.entries;
  spread : IsTakenDown l.graph l.own l.root l.flow.waiting.items l.fn.flow l.flow;
  noted : StayNoted l.fn.flow l.flow;
  was : l.flow.rows.was ≡ l.fn.flow.rows.was;
  noted_idle : AreOnly l.root (kids_of l.graph l.root) → notes l.flow ≡ notes l.fn.flow;
  idle : AreOnly l.root (kids_of l.graph l.root)
      → ((l.flow.waiting.items ≡ l.root ∷ []) × IsBrief 0 l.fn.steps l.steps l.fn.flow l.flow) ⊎ ((l.flow.waiting.items ≡ []) × IsBrief (2 + length (kids_of l.graph l.root)) l.fn.steps l.steps l.fn.flow l.flow);
}

-- each name waits once at most, since its row is right then
abbrev pub decreases-loop-at : goal.decreases-loop-at
decreases-loop-at g l = left_to_do l.graph l.own l.flow
