use Rattle.std.proofs.Common.{◌≡◌, ℕ, List, map}
use Rattle.fsl_order.specs.Names.{has}
use Rattle.tests_tables.proofs.orders.play_order.Given as goal

-- the names are those of the changes that are there
abbrev pub invariant-loop-text : goal.invariant-loop-text
invariant-loop-text g l = (q : List ℕ) → has (map (λ f. f.name) l.tickets.facts) q ≡ has l.names q
