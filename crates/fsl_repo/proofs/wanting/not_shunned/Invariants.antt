use Rattle.std.proofs.Common.{◌≡◌, filter, not, take}
use Rattle.std.specs.FinSet as set
use Rattle.fsl_blobs.specs.Fold.{contents}
use Rattle.fsl_repo.proofs.wanting.not_shunned.Given as goal

abbrev pub invariant-loop-name : goal.invariant-loop-name
invariant-loop-name l = l.found.items ≡ filter (λ name. not (set.contains (contents l.blobs.records).shunned name)) (take l.name-index l.names)
