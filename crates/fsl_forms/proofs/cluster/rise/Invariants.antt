use Rattle.std.proofs.Common.{◌≡◌, length}
use Rattle.fsl_forms.specs.WellFormed.{rise_as_written}
use Rattle.fsl_forms.proofs.cluster.rise.Given as goal

abbrev pub invariant-loop-first : goal.invariant-loop-first
invariant-loop-first l = rise_as_written l.fn.members ≡ rise_as_written l.rest

abbrev pub decreases-loop-first : goal.decreases-loop-first
decreases-loop-first l = length l.rest
