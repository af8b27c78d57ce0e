use Rattle.std.proofs.Common.{◌≡◌, map}
use Rattle.std.specs.Map.Iter.{deref_pair}
use Rattle.fsl_uv.specs.Reports.{listed}
use Rattle.fsl_uv.proofs.held.Held.list.Given as goal

abbrev pub invariant-loop-path : goal.invariant-loop-path
invariant-loop-path l = l.text ≡ listed (map deref_pair l.yielded)
