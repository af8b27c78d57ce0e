use Rattle.std.proofs.Common.{◌≡◌, map, take}
use Rattle.fsl_query.proofs.tickets.ids.Given as goal

-- the ids of the changes that were passed
abbrev pub invariant-loop-change : goal.invariant-loop-change
invariant-loop-change l = l.ids.items ≡ map (λ f. f.id) (take l.change-index l.changes)
