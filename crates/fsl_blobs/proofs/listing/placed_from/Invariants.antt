use Rattle.std.proofs.Common.{◌≡◌, map}
use Rattle.std.specs.Map.Iter.{deref_pair}
use Rattle.fsl_blobs.specs.Listing.{pair_of}
use Rattle.fsl_blobs.proofs.listing.placed_from.Given as goal

abbrev pub invariant-loop-place : goal.invariant-loop-place
invariant-loop-place l = map pair_of l.names.items ≡ map deref_pair l.yielded
