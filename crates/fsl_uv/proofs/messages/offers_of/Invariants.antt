use Rattle.std.proofs.Common.{◌≡◌, take}
use Rattle.std.specs.Map.{keys_of}
use Rattle.fsl_uv.specs.Reading.{offers_seen, first_offers}
use Rattle.fsl_uv.proofs.messages.offers_of.Given as goal

abbrev pub invariant-loop-card : goal.invariant-loop-card
invariant-loop-card l = offers_seen l.offers.entries ≡ first_offers (keys_of l.held) (take l.card-index l.cards)
