-- The order in which the changes of a ticket are kept.
use Rattle.std.specs.Prelude.{ℕ, List}
use Rattle.std.specs.declared.cmp.Ordering.{Ordering}
use Rattle.fsl_order.specs.Names.{dated_cmp}

-- by date and name, the newest first
abbrev pub newest_cmp : ℕ × List ℕ → ℕ × List ℕ → Ordering
newest_cmp a b = dated_cmp b a
