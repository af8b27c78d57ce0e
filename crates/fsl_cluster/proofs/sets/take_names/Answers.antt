use Rattle.std.proofs.lemmas.List.{drop_more}
use Rattle.std.proofs.Common.{◌≡◌, ◌∙◌, ◌∷◌, ◌+◌, ◌&&◌, not, drop, ap, sym, arith}
use Rattle.std.specs.Str.{bytes_eq}
use Rattle.fsl_order.specs.Names.{has}
use Rattle.fsl_cluster.specs.Kept.{is_in}
use Rattle.fsl_cluster.proofs.Turning.{out-step}
use Rattle.fsl_cluster.proofs.sets.take_names.Goals as goal

pub take_name-requires : goal.take_name-requires
take_name-requires g c = c.loop-one.invariant.ordered

pub loop-one-preserved : goal.loop-one-preserved
loop-one-preserved g c =
    let i = c.loop-one.one-index in
    let p = c.one-item.result in
    let rest = drop (i + 1) c.args.some.now in
    let cut : drop i c.args.some.now ≡ p ∷ rest = drop_more c.args.some.now i p c.loop-one-test.true ∙ ap (λ x. x ∷ rest) (sym c.one-item.is) in
    record {
      names = λ q.
          ap (λ b. b && not (has rest q)) (c.in_ok-take_name.ensures.names q)
          ∙ out-step (is_in c.loop-one.names.held.entries q) (bytes_eq q p) (has rest q) _
          (ap (λ l. is_in c.loop-one.names.held.entries q && not (has l q)) (sym cut) ∙ c.loop-one.invariant.names q);
      turned = λ before all. c.in_ok-take_name.ensures.turned before (c.loop-one.invariant.turned before all);
      ordered = c.in_ok-take_name.ensures.ordered;
      was = c.take_name.ensures.was ∙ c.loop-one.invariant.was;
      cost = omega (arith, c.take_name.ensures.most, c.loop-one.invariant.cost);
      back = omega (arith, c.take_name.ensures.back, c.loop-one.invariant.back);
      within = omega (arith, c.loop-one-test.true);
    }
