use Rattle.std.proofs.Common.{◌≡◌, map}
use Rattle.std.specs.Map.Iter.{deref_pair}
use Rattle.fsl_uv.specs.Syncing.{entries_of}
use Rattle.fsl_uv.proofs.held.Held.entries.Given as goal

abbrev pub invariant-loop-path : goal.invariant-loop-path
invariant-loop-path l = l.entries ≡ entries_of (map deref_pair l.yielded)
