use Rattle.std.proofs.Common.{◌≡◌, ◌||◌, List, ℕ, drop}
use Rattle.fsl_order.specs.Names.{has}
use Rattle.fsl_table.proofs.names.note_all.Given as goal

-- with what is left, it is the whole
abbrev pub invariant-loop-name : goal.invariant-loop-name
invariant-loop-name l = (q : List ℕ) → (has (drop l.name-index l.more) q || has l.names.keys q) ≡ (has l.more q || has l.fn.names.keys q)
