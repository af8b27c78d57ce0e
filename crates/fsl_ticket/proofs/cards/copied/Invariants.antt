use Rattle.std.proofs.Common.{◌≡◌, take}
use Rattle.fsl_ticket.proofs.cards.copied.Given as goal

-- the cards that were passed are copied
abbrev pub invariant-loop-card : goal.invariant-loop-card
invariant-loop-card l = l.copy ≡ take l.card-index l.cards
