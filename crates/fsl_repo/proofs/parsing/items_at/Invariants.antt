use Rattle.fsl_repo.proofs.ReadItems.{IsUnderway}
use Rattle.fsl_repo.proofs.parsing.items_at.Given as goal

abbrev pub invariant-loop-holding : goal.invariant-loop-holding
invariant-loop-holding l = IsUnderway l.held l.holding-index l.left.items l.items.items
