use Rattle.std.proofs.Common.{◌≡◌, ◌++◌, Some, length}
use Rattle.fsl_ticket.specs.Walked.{down_from, names_until}
use Rattle.fsl_ticket.proofs.walk.names_from.Given as goal

-- with what is left, they are all
abbrev pub invariant-loop-next : goal.invariant-loop-next
invariant-loop-next g l =
    l.names ++ names_until l.facts.held.entries l.field (down_from l.next l.id l.spots.held.entries)
    ≡ names_until l.facts.held.entries l.field (down_from (Some l.fn.first) l.id l.spots.held.entries)

abbrev pub decreases-loop-next : goal.decreases-loop-next
decreases-loop-next g l = length (down_from l.next l.id l.spots.held.entries)
