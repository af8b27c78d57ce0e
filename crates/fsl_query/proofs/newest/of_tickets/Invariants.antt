use Rattle.std.proofs.Common.{◌≡◌, ℕ, List, map, take}
use Rattle.fsl_order.specs.Maps.{value_at}
use Rattle.fsl_query.specs.Listings.{dated_change, newest}
use Rattle.fsl_query.proofs.newest.of_tickets.Given as goal

-- of the changes that were passed each ticket has its latest
abbrev pub invariant-loop-change : goal.invariant-loop-change
invariant-loop-change l = (q : List ℕ) → value_at l.found.entries q ≡ newest (map dated_change (take l.change-index l.changes)) q
