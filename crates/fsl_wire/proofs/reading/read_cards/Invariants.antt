use Rattle.std.proofs.Common.{◌≡◌, ◌-◌, length}
use Rattle.fsl_wire.specs.Drafts.{with_tails, logins_of}
use Rattle.fsl_wire.specs.Reading.{AreCardsTo}
use Rattle.fsl_wire.proofs.reading.read_cards.Given as goal

abbrev pub invariant-lines : goal.invariant-lines
invariant-lines l = AreCardsTo l.bytes l.line l.at (with_tails l.cards.items l.behinds.items) × (length l.behinds.items ≡ logins_of l.cards.items)

abbrev pub decreases-lines : goal.decreases-lines
decreases-lines l = length l.bytes - l.at
