use Rattle.std.proofs.Common.{◌≡◌, ◌++◌, drop}
use Rattle.fsl_name.specs.Ref.{own_names}
use Rattle.fsl_cross.proofs.checkin.own_names.Given as goal

abbrev pub invariant-loop-found : goal.invariant-loop-found
invariant-loop-found l = own_names l.refs ≡ l.names.items ++ own_names (drop l.found-index l.refs)
