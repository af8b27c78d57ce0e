use Rattle.std.proofs.Common.{◌≡◌, map, take}
use Rattle.fsl_order.specs.Names.{has}
use Rattle.fsl_repo.proofs.replying.flagged.Given as goal

abbrev pub invariant-loop-name : goal.invariant-loop-name
invariant-loop-name l = l.list.items ≡ map (λ name. (name, has l.private name)) (take l.name-index l.names)
