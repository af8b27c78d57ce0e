use Rattle.std.proofs.Common.{◌≡◌, map}
use Rattle.std.specs.Prelude.{filter_map}
use Rattle.std.specs.Map.Iter.{deref_pair}
use Rattle.fsl_query.specs.Summary.{id_in}
use Rattle.fsl_query.proofs.noting.ids.Given as goal

abbrev pub invariant-loop-note : goal.invariant-loop-note
invariant-loop-note l = l.ids.items ≡ filter_map id_in (map deref_pair l.yielded)
