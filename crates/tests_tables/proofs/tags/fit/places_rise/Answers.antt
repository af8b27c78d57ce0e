use Rattle.std.proofs.Common.{◌<◌, ap, arith}
use Rattle.fsl_tags.specs.declared.Assertion.{Assertion}
use Rattle.fsl_tags.proofs.FitFacts.{place_more}
use Rattle.tests_tables.proofs.tags.fit.places_rise.Goals as goal

pub loop-i-preserved : goal.loop-i-preserved
loop-i-preserved c k h =
    let a = c.index-tags-i.result in
    let b = c.index-tags-i-in-loop-i.result in
    let less : a.place < b.place = omega (arith, c.if-tags-i.false, ap (λ (a : Assertion). a.place) c.index-tags-i.is, ap (λ (a : Assertion). a.place) c.index-tags-i-in-loop-i.is) in
    place_more c.args.tags.now c.loop-i.i k a b (omega arith) c.loop-i-test.true c.index-tags-i.is c.index-tags-i-in-loop-i.is less c.loop-i.invariant h
