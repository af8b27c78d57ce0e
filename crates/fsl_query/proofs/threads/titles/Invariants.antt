use Rattle.std.proofs.Common.{◌≡◌, ℕ, List, take}
use Rattle.std.specs.Prelude.{find, option_map}
use Rattle.fsl_order.specs.Maps.{value_at}
use Rattle.fsl_query.specs.Listings.{names_thread}
use Rattle.fsl_query.proofs.threads.titles.Given as goal

-- the titles of the rows that were passed
abbrev pub invariant-loop-row : goal.invariant-loop-row
invariant-loop-row l = (q : List ℕ) → value_at l.titles.entries q ≡ option_map (λ r. r.text) (find (names_thread l.table.facts q) (take l.row-index l.rows))
