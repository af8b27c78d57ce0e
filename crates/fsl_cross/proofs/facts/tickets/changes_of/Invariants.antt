use Rattle.std.proofs.Common.{◌≡◌, map, take}
use Rattle.fsl_cross.specs.Facts.{field_change}
use Rattle.fsl_cross.proofs.facts.tickets.changes_of.Given as goal

-- what the cards that were passed say
abbrev pub invariant-loop-card : goal.invariant-loop-card
invariant-loop-card l = l.changes.items ≡ map field_change (take l.card-index l.cards)
