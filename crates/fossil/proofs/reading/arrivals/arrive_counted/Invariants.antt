use Rattle.fossil.proofs.ArrivalLemmas.{AreTaken}
use Rattle.std.proofs.Common.{◌≡◌}
use Rattle.fossil.proofs.reading.arrivals.arrive_counted.Given as goal

abbrev pub invariant-loop-file : goal.invariant-loop-file
invariant-loop-file g l = record {
  taken : AreTaken l.fn.receipt l.fn.repo.seen.state l.fn.files l.file-iterator.rest.items l.repo.seen.state l.text;
  disk : l.repo.disk ≡ l.fn.repo.disk;
}
