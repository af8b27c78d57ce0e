use Rattle.std.proofs.Common.{ap, ◌∙◌}
use Rattle.fsl_cluster.specs.declared.Fact.{Fact}
use Rattle.fsl_cross.proofs.ClusterFacts.{clusters-there, clusters-hidden, clusters-published}
use Rattle.fsl_cross.proofs.change.clusters.publish.Goals as goal

pub change-requires : goal.change-requires
change-requires g c = clusters-there c.args.items.now c.requires.new.rising c.args.item.now c.requires.new.there c.args.clusters.now.facts c.in_ok-fact.fact c.requires.facts c.in_ok-fact.ensures

pub returns-clause-facts : goal.returns-clause-facts
returns-clause-facts g c =
    clusters-published c.args.items.now c.requires.new.rising c.args.item.now c.requires.new.there c.change.result c.args.clusters.now.facts c.change.new.clusters.facts c.in_ok-fact.fact c.requires.facts c.in_ok-fact.ensures c.change.ensures.facts

pub returns-clause-cost : goal.returns-clause-cost
returns-clause-cost g c =
    c.change.ensures.cost
    (clusters-hidden c.args.items.now c.requires.new.rising c.args.item.now c.requires.new.there c.args.clusters.now.facts c.in_ok-fact.fact c.requires.facts c.in_ok-fact.ensures)
    (ap (λ (f : Fact). f.private) c.in_ok-fact.ensures ∙ c.requires.public)
