use Rattle.std.proofs.Common.{take, arith, subst}
use Rattle.std.specs.List.{AllByRecursion}
use Rattle.fsl_tags.specs.Laying.{IsKnown, AreKnown}
use Rattle.fsl_tags.proofs.Filling.{all_stay}
use Rattle.fsl_tags.proofs.FitFacts.{all_more, all_taken}
use Rattle.fsl_tags.proofs.settle.settle_all.Goals as goal

pub loop-fact-preserved : goal.loop-fact-preserved
loop-fact-preserved g c =
    let i = c.loop-fact.fact-index in
    let given = c.args.given.now in
    let old = c.loop-fact.settled.entries in
    let then = c.settle_targets.new.settled.entries in
    record {
      right = c.in_ok-settle_targets.ensures.right;
      there = all_more (AreKnown then) given i c.fact-item.result c.loop-fact-test.true c.fact-item.is
          (all_stay (AreKnown old) (AreKnown then)
          (λ f known. (
            c.in_ok-settle_targets.ensures.stay f.name (c.in_ok-settle.ensures.stay f.name known.0),
            all_stay (λ a. IsKnown old a.target) (λ a. IsKnown then a.target) (λ a there. c.in_ok-settle_targets.ensures.stay a.target (c.in_ok-settle.ensures.stay a.target there)) f.tags known.1,
          ))
          (take i given) c.loop-fact.invariant.there) (
            c.in_ok-settle_targets.ensures.stay c.fact-item.result.name c.in_ok-settle.ensures.there,
            subst (AllByRecursion (λ a. IsKnown then a.target)) c.items.ensures c.in_ok-settle_targets.ensures.there,
          );
    }

pub returns-clause-all : goal.returns-clause-all
returns-clause-all g c = all_taken (AreKnown c.loop-fact.settled.entries) c.args.given.now c.loop-fact.fact-index (omega (arith, c.loop-fact-test.false)) c.loop-fact.invariant.there
