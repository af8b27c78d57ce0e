use Rattle.std.proofs.Common.{◌≡◌, ◌++◌, take}
use Rattle.fsl_name.specs.Ref.{own_names}
use Rattle.fsl_artifact.proofs.names.append_refs.Given as goal

abbrev pub invariant-loop-found : goal.invariant-loop-found
invariant-loop-found l = l.names.items ≡ l.fn.names.items ++ own_names (take l.found-index l.refs)
