use Rattle.std.proofs.Common.{◌≡◌, ◌++◌, map, drop}
use Rattle.std.specs.Prelude.{filter_map}
use Rattle.fsl_repo.specs.Sending.{as_due}
use Rattle.fsl_repo.proofs.Loops.{may_due}
use Rattle.fsl_repo.proofs.sending.asked_over.Given as goal

abbrev pub invariant-loop-name : goal.invariant-loop-name
invariant-loop-name l = filter_map (may_due l.blobs.records l.private) l.names ≡ map as_due l.list.items ++ filter_map (may_due l.blobs.records l.private) (drop l.name-index l.names)
