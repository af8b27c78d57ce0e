use Rattle.std.proofs.Common.{length}
use Rattle.fsl_checkin.proofs.TreeLemmas.{IsReadTo}
use Rattle.fsl_checkin.proofs.reading.read_tree.Given as goal

abbrev pub invariant-loop-rest : goal.invariant-loop-rest
invariant-loop-rest l = IsReadTo l.initial.rest l.items l.rest

abbrev pub decreases-loop-rest : goal.decreases-loop-rest
decreases-loop-rest l = length l.rest
