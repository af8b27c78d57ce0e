use Rattle.std.proofs.Common.{◌≡◌, map}
use Rattle.std.specs.Map.Iter.{deref_pair}
use Rattle.fsl_blobs.specs.Seen.{held_as}
use Rattle.fsl_blobs.specs.Listing.{entry_of, known_as, known_of}
use Rattle.fsl_blobs.proofs.listing.holdings.Given as goal

abbrev pub invariant-loop-name : goal.invariant-loop-name
invariant-loop-name l = (map held_as l.list.items ≡ map entry_of (map deref_pair l.yielded)) × (map known_as l.list.items ≡ map known_of (map deref_pair l.yielded))
