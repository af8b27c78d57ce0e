use Rattle.tests_log.specs.Open.{IsInStep}
use Rattle.tests_log.proofs.blobs.read_all.Given as goal

abbrev pub invariant-loop-byte : goal.invariant-loop-byte
invariant-loop-byte g l = IsInStep l.fn.journal l.blobs (g.D.Disk.state l.disk)
