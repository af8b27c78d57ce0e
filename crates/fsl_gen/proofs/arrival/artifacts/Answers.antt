use Rattle.std.proofs.Common.{◌≡◌, true, false, not, ap, arith}
use Rattle.std.proofs.lemmas.Bool.Decides.{nat_tests}
use Rattle.fsl_gen.specs.Arrival.{generated, is_odd}
use Rattle.fsl_gen.proofs.Orders.{backward, forward, joined, named_step, pass_step, put_step}
use Rattle.fsl_gen.proofs.arrival.artifacts.Goals as goal
use Rattle.fsl_gen.proofs.arrival.artifacts.Goals.{then-number-eq1+in_ok-push-2, else-number-eq1+in_ok-push-3, then-reversed, else-reversed}

pub loop-number-preserved : goal.loop-number-preserved
loop-number-preserved c =
    let i = c.loop-number.number in
    let named = named_step _ _ _ _ _ i c.loop-number.invariant.named c.in_ok-push.ensures.items c.of.ensures.value c.bytes.ensures c.in_ok-text.ensures in
    elim c.if-number-eq1.branch [
      | then-number-eq1+in_ok-push-2 w ↦
          let h : is_odd i ≡ true = grind (arith, nat_tests) in
          record {
            named = named;
            odd = rw w.texts-is (put_step is_odd _ _ _ i h c.loop-number.invariant.odd w.in_ok-push-2.ensures.items c.in_ok-text.ensures);
            even = rw w.even-is (pass_step (λ j. not (is_odd j)) _ i (ap not h) c.loop-number.invariant.even);
          }
      | else-number-eq1+in_ok-push-3 w ↦
          let h : is_odd i ≡ false = grind (arith, nat_tests) in
          record {
            named = named;
            odd = rw w.texts-is (pass_step is_odd _ i h c.loop-number.invariant.odd);
            even = rw w.even-is (put_step (λ j. not (is_odd j)) _ _ _ i (ap not h) c.loop-number.invariant.even w.in_ok-push-3.ensures.items c.in_ok-text.ensures);
          }
    ]

pub returns : goal.returns
returns c =
    let count = c.args.count in
    let n : c.loop-number.number ≡ count = omega arith in
    let whole : c.append.new.self.items ≡ generated count false =
    joined _ _ _ _ c.loop-number.number count n c.loop-number.invariant.odd c.loop-number.invariant.even c.reverse.ensures.items c.in_ok-append.ensures.items in
    elim c.if-reversed.branch [
      | then-reversed w ↦
          rw (c.from_vec.ensures, w.texts-is) (backward _ _ count c.args.reversed w.if-reversed.true whole w.reverse-then-reversed.ensures.items)
      | else-reversed w ↦ rw (c.from_vec.ensures, w.texts-is) (forward _ count c.args.reversed w.if-reversed.false whole)
    ]
