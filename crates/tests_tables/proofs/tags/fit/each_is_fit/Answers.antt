use Rattle.fsl_tags.specs.Tags.{IsTagFact}
use Rattle.fsl_tags.proofs.FitFacts.{all_more, all_taken}
use Rattle.tests_tables.proofs.tags.fit.each_is_fit.Goals as goal

pub loop-fact-preserved : goal.loop-fact-preserved
loop-fact-preserved c =
    all_more (IsTagFact c.args.facts.now) c.args.facts.now c.loop-fact.fact-index c.fact-item.result c.loop-fact-test.true c.fact-item.is c.loop-fact.invariant
    (c.is_fit.ensures c.if-not-is_fit.false)

pub returns : goal.returns
returns c _ = all_taken (IsTagFact c.args.facts.now) c.args.facts.now c.loop-fact.fact-index c.loop-fact-test.false c.loop-fact.invariant
