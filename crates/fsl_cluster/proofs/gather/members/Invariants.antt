use Rattle.std.proofs.Common.{◌≡◌, take}
use Rattle.std.specs.List.{flat_map}
use Rattle.fsl_cluster.proofs.gather.members.Given as goal

abbrev pub invariant-loop-fact : goal.invariant-loop-fact
invariant-loop-fact l = l.names.items ≡ flat_map (λ f. f.members) (take l.fact-index l.facts)
