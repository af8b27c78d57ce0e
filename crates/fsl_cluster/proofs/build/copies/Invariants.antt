use Rattle.std.proofs.Common.{◌≡◌, take}
use Rattle.fsl_cluster.proofs.build.copies.Given as goal

-- the facts that were passed are copied
abbrev pub invariant-loop-fact : goal.invariant-loop-fact
invariant-loop-fact l = l.list.items ≡ take l.fact-index l.facts
