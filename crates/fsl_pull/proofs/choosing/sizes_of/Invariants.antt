use Rattle.std.proofs.Common.{◌≡◌, ◌++◌, drop}
use Rattle.std.specs.Prelude.{filter_map}
use Rattle.fsl_blobs.specs.Held.{state_of}
use Rattle.fsl_repo.specs.Machine.{now}
use Rattle.fsl_pull.specs.Sent.{public_size}
use Rattle.fsl_pull.proofs.choosing.sizes_of.Given as goal

abbrev pub invariant-loop-name : goal.invariant-loop-name
invariant-loop-name g l =
    filter_map (λ name. public_size (state_of (now l.repo.seen.state) name)) l.names
    ≡ l.sizes.items ++ filter_map (λ name. public_size (state_of (now l.repo.seen.state) name)) (drop l.name-index l.names)
