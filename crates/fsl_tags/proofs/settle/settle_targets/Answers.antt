use Rattle.std.proofs.Common.{take, arith}
use Rattle.fsl_tags.specs.Laying.{IsKnown}
use Rattle.fsl_tags.proofs.Filling.{all_stay}
use Rattle.fsl_tags.proofs.FitFacts.{all_more, all_taken}
use Rattle.fsl_tags.proofs.settle.settle_targets.Goals as goal

pub loop-assertion-preserved : goal.loop-assertion-preserved
loop-assertion-preserved g c =
    let i = c.loop-assertion.assertion-index in
    let as_ = c.args.assertions.now in
    let then = c.settle.new.settled.entries in
    record {
      right = c.in_ok-settle.ensures.right;
      there = all_more (λ a. IsKnown then a.target) as_ i c.assertion-item.result c.loop-assertion-test.true c.assertion-item.is
          (all_stay (λ a. IsKnown c.loop-assertion.settled.entries a.target) (λ a. IsKnown then a.target) (λ a. c.in_ok-settle.ensures.stay a.target) (take i as_) c.loop-assertion.invariant.there)
          c.in_ok-settle.ensures.there;
      stay = λ q known. c.in_ok-settle.ensures.stay q (c.loop-assertion.invariant.stay q known);
    }

pub returns-clause-there : goal.returns-clause-there
returns-clause-there g c = all_taken (λ a. IsKnown c.loop-assertion.settled.entries a.target) c.args.assertions.now c.loop-assertion.assertion-index (omega (arith, c.loop-assertion-test.false)) c.loop-assertion.invariant.there
