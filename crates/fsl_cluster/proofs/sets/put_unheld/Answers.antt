use Rattle.std.proofs.lemmas.List.{drop_more}
use Rattle.std.proofs.Common.{◌≡◌, ◌∙◌, ◌∷◌, ◌+◌, ◌&&◌, ◌||◌, drop, ap, sym, arith}
use Rattle.std.specs.Str.{bytes_eq}
use Rattle.std.specs.Cmp.Lexicographic.{bytes_decides}
use Rattle.fsl_order.specs.Names.{has}
use Rattle.fsl_cluster.specs.Kept.{is_in, is_unheld}
use Rattle.fsl_cluster.proofs.Turning.{in-step}
use Rattle.fsl_cluster.proofs.sets.put_unheld.Goals as goal

pub put_wanted-requires : goal.put_wanted-requires
put_wanted-requires g c = c.loop-one.invariant.ordered

pub loop-one-preserved : goal.loop-one-preserved
loop-one-preserved g c =
    let i = c.loop-one.one-index in
    let p = c.one-item.result in
    let rest = drop (i + 1) c.args.some.now in
    let cut : drop i c.args.some.now ≡ p ∷ rest = drop_more c.args.some.now i p c.loop-one-test.true ∙ ap (λ x. x ∷ rest) (sym c.one-item.is) in
    record {
      names = λ q.
          ap (λ b. b || (has rest q && is_unheld c.args.facts.now.held.entries c.args.name q)) (c.in_ok-put_wanted.ensures.names q)
          ∙ in-step (is_in c.loop-one.names.held.entries q) (bytes_eq q p) (has rest q) c.is_wanting-wanted.result (is_unheld c.args.facts.now.held.entries c.args.name q) _
          (λ s. c.is_wanting-wanted.ensures.is ∙ ap (is_unheld c.args.facts.now.held.entries c.args.name) (sym ((bytes_decides q p).0 s)))
          (ap (λ l. is_in c.loop-one.names.held.entries q || (has l q && is_unheld c.args.facts.now.held.entries c.args.name q)) (sym cut) ∙ c.loop-one.invariant.names q);
      turned = λ before all. c.in_ok-put_wanted.ensures.turned before (c.loop-one.invariant.turned before all);
      ordered = c.in_ok-put_wanted.ensures.ordered;
      was = c.put_wanted.ensures.was ∙ c.loop-one.invariant.was;
      cost = omega (arith, c.put_wanted.ensures.most, c.is_wanting-wanted.ensures.most, c.loop-one.invariant.cost);
      back = omega (arith, c.put_wanted.ensures.back, c.loop-one.invariant.back);
      within = omega (arith, c.loop-one-test.true);
    }
