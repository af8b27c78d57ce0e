use Rattle.std.proofs.Common.{◌≡◌, take, map}
use Rattle.fsl_ticket.specs.Kept.{row_of}
use Rattle.fsl_ticket.proofs.rows.rows_at.Given as goal

-- the ids that were passed have their rows
abbrev pub invariant-loop-id : goal.invariant-loop-id
invariant-loop-id g l = l.rows ≡ map (row_of l.configured l.facts.held.entries) (take l.id-index l.ids)
