use Rattle.std.proofs.Common.{◌≡◌, filter, not, take}
use Rattle.std.specs.List.{flat_map}
use Rattle.fsl_order.specs.Names.{has}
use Rattle.fsl_cluster.proofs.gather.refs_unheld.Given as goal

abbrev pub invariant-loop-fact : goal.invariant-loop-fact
invariant-loop-fact l = l.found.items ≡ filter (λ name. not (has l.held name)) (flat_map (λ f. f.refs) (take l.fact-index l.facts))
