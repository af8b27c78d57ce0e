use Rattle.std.proofs.Common.{◌≡◌, length}
use Rattle.fsl_blobs.proofs.Folding.{IsMore}
use Rattle.fsl_blobs.proofs.blobs.Blobs.and_more.Given as goal

abbrev pub invariant-loop-entry : goal.invariant-loop-entry
invariant-loop-entry l = IsMore l.fn.entries l.starts l.fn.self l.blobs l.entry-iterator.rest.items
