use Rattle.std.proofs.Common.{◌∙◌}
use Rattle.fsl_cluster.proofs.FactLemmas.{flat_map_next}
use Rattle.fsl_cluster.proofs.gather.members.Goals as goal

pub loop-fact-preserved : goal.loop-fact-preserved
loop-fact-preserved c =
    c.in_ok-extend_from_slice.ensures.items
    ∙ flat_map_next (λ f. f.members) c.args.facts.now c.loop-fact.fact-index c.fact-item.result c.loop-fact.names.items c.items.result.now
    c.loop-fact-test.true c.fact-item.is c.items.ensures c.loop-fact.invariant
