use Rattle.std.proofs.Common.{◌≡◌, take}
use Rattle.std.specs.List.{filter_map}
use Rattle.fsl_ticket.specs.Kept.{if_other}
use Rattle.fsl_ticket.proofs.rows.others.Given as goal

-- those of the rows that were passed are there
abbrev pub invariant-loop-row : goal.invariant-loop-row
invariant-loop-row g l = l.list ≡ filter_map (if_other l.configured l.facts.held.entries) (take l.row-index l.rows)
