use Rattle.fossil.proofs.GatherLemmas.{AreGathered}
use Rattle.fossil.proofs.reading.gathering.gather.Given as goal

abbrev pub invariant-loop-file : goal.invariant-loop-file
invariant-loop-file l = AreGathered l.fn.files l.file-iterator.rest.items l.set
