use Rattle.std.proofs.Common.{length}
use Rattle.fsl_card.proofs.CardLemmas.{AreOrderedTo}
use Rattle.fsl_card.proofs.reading.ordered_cards.Given as goal

abbrev pub invariant-loop-rest : goal.invariant-loop-rest
invariant-loop-rest l = AreOrderedTo l.initial.rest l.cards l.rest

abbrev pub decreases-loop-rest : goal.decreases-loop-rest
decreases-loop-rest l = length l.rest
