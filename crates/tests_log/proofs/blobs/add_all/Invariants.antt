use Rattle.std.proofs.Common.{◌≡◌, None}
use Rattle.tests_log.specs.Open.{IsInStep}
use Rattle.tests_log.proofs.blobs.add_all.Given as goal

abbrev pub invariant-loop-byte : goal.invariant-loop-byte
invariant-loop-byte g l = IsInStep l.journal l.blobs (g.D.Disk.state l.fn.disk) × (l.journal.stopped ≡ None)
