use Rattle.std.proofs.Common.{◌≡◌, [], map}
use Rattle.std.specs.Map.{keys_of}
use Rattle.std.specs.Map.Iter.{deref_pair}
use Rattle.fsl_uv.specs.Reading.{offers_seen, first_offers}
use Rattle.fsl_uv.proofs.held.Held.paths.Given as goal

abbrev pub invariant-loop-path : goal.invariant-loop-path
invariant-loop-path l = offers_seen l.paths.entries ≡ first_offers (keys_of (map deref_pair l.yielded)) []
