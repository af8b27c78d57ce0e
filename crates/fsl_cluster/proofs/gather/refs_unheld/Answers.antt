use Rattle.std.proofs.Common.{◌∙◌, not}
use Rattle.fsl_order.specs.Names.{has}
use Rattle.fsl_cluster.proofs.FactLemmas.{filter_next}
use Rattle.fsl_cluster.proofs.gather.refs_unheld.Goals as goal

pub loop-fact-preserved : goal.loop-fact-preserved
loop-fact-preserved c =
    c.in_ok-append_unheld.ensures
    ∙ filter_next (λ name. not (has c.args.held.now name)) (λ f. f.refs) c.args.facts.now c.loop-fact.fact-index c.fact-item.result c.loop-fact.found.items c.items.result.now
    c.loop-fact-test.true c.fact-item.is c.items.ensures c.loop-fact.invariant
