use Rattle.std.proofs.Common.{◌≡◌, ℕ, List, Some, cond, take}
use Rattle.fsl_order.specs.Names.{has}
use Rattle.fsl_order.specs.Maps.{value_at}
use Rattle.fsl_forum.proofs.chains.put_each.Given as goal

-- the end of the posts that were passed is in
abbrev pub invariant-loop-name : goal.invariant-loop-name
invariant-loop-name l = (q : List ℕ) → value_at l.ends.entries q ≡ cond (has (take l.name-index l.names) q) (Some l.end) (value_at l.fn.ends.entries q)
