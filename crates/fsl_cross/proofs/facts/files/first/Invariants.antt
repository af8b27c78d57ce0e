use Rattle.std.proofs.Common.{◌≡◌, drop}
use Rattle.fsl_name.specs.Ref.{own_names}
use Rattle.fsl_cross.proofs.facts.files.first.Given as goal

-- the references that were passed are foreign
abbrev pub invariant-loop-found : goal.invariant-loop-found
invariant-loop-found l = own_names l.refs ≡ own_names (drop l.found-index l.refs)
