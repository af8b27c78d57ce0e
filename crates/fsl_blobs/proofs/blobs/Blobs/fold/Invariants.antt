use Rattle.fsl_blobs.proofs.Folding.{IsFolded}
use Rattle.fsl_blobs.proofs.blobs.Blobs.fold.Given as goal

abbrev pub invariant-loop-entry : goal.invariant-loop-entry
invariant-loop-entry l = IsFolded l.fn.entries l.starts l.blobs l.entry-iterator.rest.items
