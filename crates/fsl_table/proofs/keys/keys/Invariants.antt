use Rattle.std.proofs.Common.{◌≡◌, ◌++◌, length}
use Rattle.std.specs.Map.{keys_of}
use Rattle.fsl_table.specs.Pairs.{left_from}
use Rattle.fsl_table.proofs.keys.keys.Given as goal

-- with what is left, it is the whole
abbrev pub invariant-loop-next : goal.invariant-loop-next
invariant-loop-next g l = l.list ++ left_from l.next (keys_of l.table.entries) ≡ keys_of l.table.entries

abbrev pub decreases-loop-next : goal.decreases-loop-next
decreases-loop-next g l = length (left_from l.next (keys_of l.table.entries))
