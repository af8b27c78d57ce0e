use Rattle.std.proofs.Common.{◌≡◌, ◌++◌, filter, not, take}
use Rattle.fsl_order.specs.Names.{has}
use Rattle.fsl_cluster.proofs.gather.append_unheld.Given as goal

abbrev pub invariant-loop-name : goal.invariant-loop-name
invariant-loop-name l = l.into.items ≡ l.fn.into.items ++ filter (λ name. not (has l.held name)) (take l.name-index l.more)
