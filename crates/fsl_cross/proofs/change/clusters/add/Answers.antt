use Rattle.fsl_cross.proofs.ClusterFacts.{clusters-absent, clusters-added}
use Rattle.fsl_cross.proofs.change.clusters.add.Goals as goal

pub put-requires : goal.put-requires
put-requires g c = clusters-absent c.args.items.now c.requires.new.rising c.args.item.now c.requires.new.there c.args.clusters.now.facts c.in_ok-fact.fact c.requires.facts c.in_ok-fact.ensures

pub returns-clause-facts : goal.returns-clause-facts
returns-clause-facts g c =
    clusters-added c.args.items.now c.requires.new.rising c.args.item.now c.requires.new.there c.put.result c.args.clusters.now.facts c.put.new.clusters.facts c.in_ok-fact.fact c.requires.facts c.in_ok-fact.ensures c.put.ensures.facts
