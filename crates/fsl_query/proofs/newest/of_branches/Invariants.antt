use Rattle.std.proofs.Common.{◌≡◌, ℕ, List, take}
use Rattle.fsl_order.specs.Maps.{value_at}
use Rattle.fsl_cross.specs.Inside.{branch_over}
use Rattle.fsl_query.specs.Listings.{checkins, newest}
use Rattle.fsl_query.proofs.newest.of_branches.Given as goal

-- of the rows that were passed each branch has its newest check-in
abbrev pub invariant-loop-row : goal.invariant-loop-row
invariant-loop-row l = (q : List ℕ) → value_at l.found.entries q ≡ newest (checkins (branch_over l.tags.facts) (take l.row-index l.rows)) q
