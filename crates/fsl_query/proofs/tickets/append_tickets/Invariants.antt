use Rattle.std.proofs.Common.{◌≡◌, ◌++◌, map}
use Rattle.std.specs.Prelude.{flat_map}
use Rattle.std.specs.Map.Iter.{deref_pair}
use Rattle.fsl_ticket.specs.Tickets.{value}
use Rattle.fsl_query.specs.Lines.{ticket_line}
use Rattle.fsl_query.proofs.tickets.append_tickets.Given as goal

-- the tickets that were passed have their lines
abbrev pub invariant-loop-change : goal.invariant-loop-change
invariant-loop-change l =
    l.into ≡ l.initial.into ++ flat_map (λ e. ticket_line e.1.0 e.1.1 (map (value l.table.facts e.1.1) l.table.fields)) (map deref_pair l.yielded)
