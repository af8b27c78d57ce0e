use Rattle.fsl_forum.proofs.Climbs.{next_there, known_next}
use Rattle.fsl_forum.proofs.chains.ends_of.Goals as goal

pub settle-requires-clause-there : goal.settle-requires-clause-there
settle-requires-clause-there c = next_there c.args.facts.now c.loop-fact.fact-index c.fact-item.result c.loop-fact-test.true c.fact-item.is c.in_ok-nexts.nexts.entries c.loop-fact.invariant.nexts

pub loop-fact-preserved : goal.loop-fact-preserved
loop-fact-preserved c =
    let facts = c.args.facts.now in
    let was = c.loop-fact.invariant in
    let done = c.in_ok-settle.ensures in
    record {
      nexts = was.nexts;
      within = done.within;
      right = done.right facts was.nexts was.right;
      known = λ q h. done.known q (known_next facts c.loop-fact.fact-index c.fact-item.result c.loop-fact-test.true c.fact-item.is c.loop-fact.ends.entries was.known q h);
    }
