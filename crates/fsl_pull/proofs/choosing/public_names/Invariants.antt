use Rattle.std.proofs.Common.{◌≡◌, filter, take}
use Rattle.fsl_repo.specs.Machine.{now}
use Rattle.fsl_pull.specs.Pushes.{is_public}
use Rattle.fsl_pull.proofs.choosing.public_names.Given as goal

abbrev pub invariant-loop-name : goal.invariant-loop-name
invariant-loop-name g l = l.found.items ≡ filter (is_public (now l.repo.seen.state)) (take l.name-index l.names)
