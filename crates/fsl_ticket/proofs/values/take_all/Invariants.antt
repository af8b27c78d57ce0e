use Rattle.std.proofs.Common.{◌≡◌, ℕ, List, take, filter, fold}
use Rattle.std.specs.Str.{bytes_eq}
use Rattle.fsl_ticket.specs.Tickets.{after}
use Rattle.fsl_ticket.specs.Seen.{value_in}
use Rattle.fsl_ticket.proofs.values.take_all.Given as goal

-- the cards that were passed are taken
abbrev pub invariant-loop-card : goal.invariant-loop-card
invariant-loop-card l =
    (q : List ℕ) → value_in l.values.entries q ≡ fold after (value_in l.fn.values.entries q) (filter (λ card. bytes_eq card.field q) (take l.card-index l.cards))
