use Rattle.std.proofs.Common.{◌≡◌, map, take}
use Rattle.fsl_repo.specs.Sending.{as_due}
use Rattle.fsl_repo.proofs.Sendings.{lent_due}
use Rattle.fsl_repo.proofs.sending.without_places.Given as goal

abbrev pub invariant-loop-artifact : goal.invariant-loop-artifact
invariant-loop-artifact l = map as_due l.list.items ≡ map lent_due (take l.artifact-index l.held)
