use Rattle.std.proofs.Common.{◌≡◌, map, filter}
use Rattle.std.specs.Option.{option_to_list}
use Rattle.std.specs.Map.Iter.{deref}
use Rattle.fsl_blobs.specs.Listing.{begins}
use Rattle.fsl_blobs.proofs.listing.only_match.Given as goal

abbrev pub invariant-loop-name : goal.invariant-loop-name
invariant-loop-name l = filter (begins l.prefix) (map deref l.yielded) ≡ option_to_list l.first
