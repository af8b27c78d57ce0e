use Rattle.std.proofs.Common.{◌≡◌, ◌++◌, filter, length}
use Rattle.std.specs.Map.{keys_of}
use Rattle.fsl_table.specs.Pairs.{left_from}
use Rattle.fsl_tags.specs.Laying.{shows}
use Rattle.fsl_tags.proofs.gathered.holders.Given as goal

-- with what is left, it is the whole
abbrev pub invariant-loop-next : goal.invariant-loop-next
invariant-loop-next g l = l.list ++ filter (shows l.rows.held.entries l.tag) (left_from l.next (keys_of l.rows.held.entries)) ≡ filter (shows l.rows.held.entries l.tag) (keys_of l.rows.held.entries)

abbrev pub decreases-loop-next : goal.decreases-loop-next
decreases-loop-next g l = length (left_from l.next (keys_of l.rows.held.entries))
