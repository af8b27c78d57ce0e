use Rattle.std.proofs.Common.{◌≡◌, ◌++◌, map, drop}
use Rattle.std.specs.Prelude.{filter_map}
use Rattle.fsl_repo.specs.Sending.{as_held}
use Rattle.fsl_repo.proofs.Loops.{placed_of}
use Rattle.std.specs.List.{AllByRecursion}
use Rattle.fsl_repo.specs.Sending.{IsSized}
use Rattle.fsl_repo.proofs.placed.placed_over.Given as goal

abbrev pub invariant-loop-placed : goal.invariant-loop-placed
invariant-loop-placed l = (filter_map (placed_of l.blobs.records) l.names ≡ map as_held l.list.items ++ filter_map (placed_of l.blobs.records) (drop l.placed-index l.names)) × AllByRecursion IsSized l.list.items
