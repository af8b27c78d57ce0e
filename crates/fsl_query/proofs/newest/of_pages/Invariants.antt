use Rattle.std.proofs.Common.{◌≡◌, ℕ, List, take}
use Rattle.fsl_order.specs.Maps.{value_at}
use Rattle.fsl_query.specs.Listings.{newest, versions}
use Rattle.fsl_query.proofs.newest.of_pages.Given as goal

-- of the facts that were passed each title has its newest version
abbrev pub invariant-loop-fact : goal.invariant-loop-fact
invariant-loop-fact l = (q : List ℕ) → value_at l.found.entries q ≡ newest (versions (take l.fact-index l.facts)) q
