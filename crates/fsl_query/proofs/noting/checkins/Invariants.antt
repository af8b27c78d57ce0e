use Rattle.std.proofs.Common.{◌≡◌, map}
use Rattle.std.specs.Prelude.{filter_map}
use Rattle.std.specs.Map.Iter.{deref_pair}
use Rattle.fsl_query.specs.Summary.{checkin_in}
use Rattle.fsl_query.proofs.noting.checkins.Given as goal

abbrev pub invariant-loop-name : goal.invariant-loop-name
invariant-loop-name l = l.names.items ≡ filter_map checkin_in (map deref_pair l.yielded)
