use Rattle.std.proofs.lemmas.List.{drop_more}
use Rattle.std.proofs.Common.{◌≡◌, ◌∙◌, ◌∷◌, ◌+◌, ◌&&◌, not, drop, ap, sym}
use Rattle.std.specs.Str.{bytes_eq}
use Rattle.std.specs.Cmp.Lexicographic.{bytes_decides}
use Rattle.fsl_order.specs.Names.{has}
use Rattle.fsl_cluster.specs.Kept.{is_in, is_named}
use Rattle.fsl_cluster.proofs.Turning.{unless-step}
use Rattle.fsl_cluster.proofs.sets.take_unnamed.Goals as goal

pub take_unless-requires : goal.take_unless-requires
take_unless-requires g c = c.loop-one.invariant.ordered

pub loop-one-preserved : goal.loop-one-preserved
loop-one-preserved g c =
    let i = c.loop-one.one-index in
    let p = c.one-item.result in
    let rest = drop (i + 1) c.args.some.now in
    let cut : drop i c.args.some.now ≡ p ∷ rest = drop_more c.args.some.now i p c.loop-one-test.true ∙ ap (λ x. x ∷ rest) (sym c.one-item.is) in
    record {
      names = λ q.
          ap (λ b. b && not (has rest q && not (is_named c.args.pairs.now.held.entries q))) (c.in_ok-take_unless.ensures.names q)
          ∙ unless-step (is_in c.loop-one.names.held.entries q) (bytes_eq q p) (has rest q) c.is_first-kept.result (is_named c.args.pairs.now.held.entries q) _
          (λ s. c.is_first-kept.ensures.named ∙ ap (is_named c.args.pairs.now.held.entries) (sym ((bytes_decides q p).0 s)))
          (ap (λ l. is_in c.loop-one.names.held.entries q && not (has l q && not (is_named c.args.pairs.now.held.entries q))) (sym cut) ∙ c.loop-one.invariant.names q);
      turned = λ before all. c.in_ok-take_unless.ensures.turned before (c.loop-one.invariant.turned before all);
      ordered = c.in_ok-take_unless.ensures.ordered;
      was = c.take_unless.ensures.was ∙ c.loop-one.invariant.was;
    }
