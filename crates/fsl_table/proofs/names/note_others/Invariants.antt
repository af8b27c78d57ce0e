use Rattle.std.proofs.Common.{◌≡◌, ◌||◌, ◌&&◌, not, List, ℕ, drop}
use Rattle.fsl_order.specs.Names.{has}
use Rattle.fsl_table.proofs.names.note_others.Given as goal

-- with what is left, it is the whole
abbrev pub invariant-loop-name : goal.invariant-loop-name
invariant-loop-name l = (q : List ℕ) → ((has (drop l.name-index l.more) q && not (has l.but.keys q)) || has l.names.keys q) ≡ ((has l.more q && not (has l.but.keys q)) || has l.fn.names.keys q)
