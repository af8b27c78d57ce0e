use Rattle.std.proofs.Common.{map}
use Rattle.std.specs.Map.Iter.{deref_pair}
use Rattle.fsl_blobs.specs.Listing.{size_at}
use Rattle.fsl_blobs.proofs.Walking.{IsWalked}
use Rattle.fsl_blobs.proofs.listing.front_from.Given as goal

abbrev pub invariant-loop-place : goal.invariant-loop-place
invariant-loop-place l = IsWalked l.most l.each (size_at l.held.entries) (map deref_pair l.yielded) l.names.items l.sum
