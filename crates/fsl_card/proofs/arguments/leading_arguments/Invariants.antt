use Rattle.std.proofs.Common.{length}
use Rattle.fsl_card.specs.Parts.{AreArgumentsTo}
use Rattle.fsl_card.proofs.arguments.leading_arguments.Given as goal

abbrev pub invariant-loop-length : goal.invariant-loop-length
invariant-loop-length l = AreArgumentsTo l.initial.rest l.list l.rest

abbrev pub decreases-loop-length : goal.decreases-loop-length
decreases-loop-length l = length l.rest
