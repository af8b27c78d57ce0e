use Rattle.std.proofs.Common.{◌≡◌, map, filter}
use Rattle.std.specs.Map.Iter.{deref_pair}
use Rattle.fsl_blobs.proofs.names.private_in.Given as goal

abbrev pub invariant-loop-name : goal.invariant-loop-name
invariant-loop-name l = l.list.items ≡ map (λ e. e.0) (filter (λ e. e.1.private) (map deref_pair l.yielded))
