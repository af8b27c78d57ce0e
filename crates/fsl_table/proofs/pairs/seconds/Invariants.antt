use Rattle.std.proofs.Common.{◌≡◌, ◌++◌, ◌+◌, ◌≤◌, length}
use Rattle.fsl_table.specs.Pairs.{seconds, left_from}
use Rattle.fsl_table.proofs.pairs.seconds.Given as goal

-- with what is left, it is the whole
abbrev pub invariant-loop-next : goal.invariant-loop-next
invariant-loop-next g l = record {
  whole : l.list ++ left_from l.next (seconds l.first l.pairs.entries) ≡ seconds l.first l.pairs.entries;
  cost : l.steps + length (left_from l.next (seconds l.first l.pairs.entries)) ≤ l.fn.steps + (1 + length (seconds l.first l.pairs.entries));
}

abbrev pub decreases-loop-next : goal.decreases-loop-next
decreases-loop-next g l = length (left_from l.next (seconds l.first l.pairs.entries))
