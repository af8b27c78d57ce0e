use Rattle.std.proofs.Common.{◌≡◌, filter, take}
use Rattle.fsl_blobs.specs.Fold.{is_new}
use Rattle.fsl_repo.specs.Machine.{now}
use Rattle.fsl_pull.proofs.next.new_names.Given as goal

abbrev pub invariant-loop-name : goal.invariant-loop-name
invariant-loop-name g l = l.found.items ≡ filter (is_new (now l.repo.seen.state)) (take l.name-index l.names)
