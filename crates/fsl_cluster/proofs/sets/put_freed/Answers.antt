use Rattle.std.proofs.lemmas.List.{drop_more}
use Rattle.std.proofs.Common.{◌≡◌, ◌∙◌, ◌∷◌, ◌+◌, ◌&&◌, ◌||◌, drop, ap, sym}
use Rattle.std.specs.Str.{bytes_eq}
use Rattle.std.specs.Cmp.Lexicographic.{bytes_decides}
use Rattle.fsl_order.specs.Names.{has}
use Rattle.fsl_cluster.specs.Kept.{is_in, is_freed}
use Rattle.fsl_cluster.proofs.Turning.{in-step}
use Rattle.fsl_cluster.proofs.sets.put_freed.Goals as goal

pub put_wanted-requires : goal.put_wanted-requires
put_wanted-requires g c = c.loop-one.invariant.ordered

pub loop-one-preserved : goal.loop-one-preserved
loop-one-preserved g c =
    let i = c.loop-one.one-index in
    let p = c.one-item.result in
    let rest = drop (i + 1) c.args.some.now in
    let cut : drop i c.args.some.now ≡ p ∷ rest = drop_more c.args.some.now i p c.loop-one-test.true ∙ ap (λ x. x ∷ rest) (sym c.one-item.is) in
    record {
      names = λ q.
          ap (λ b. b || (has rest q && is_freed c.args.facts.now.held.entries c.args.pairs.now.held.entries c.args.name q)) (c.in_ok-put_wanted.ensures.names q)
          ∙ in-step (is_in c.loop-one.names.held.entries q) (bytes_eq q p) (has rest q) c.is_left-wanted.result (is_freed c.args.facts.now.held.entries c.args.pairs.now.held.entries c.args.name q) _
          (λ s. c.is_left-wanted.ensures ∙ ap (is_freed c.args.facts.now.held.entries c.args.pairs.now.held.entries c.args.name) (sym ((bytes_decides q p).0 s)))
          (ap (λ l. is_in c.loop-one.names.held.entries q || (has l q && is_freed c.args.facts.now.held.entries c.args.pairs.now.held.entries c.args.name q)) (sym cut) ∙ c.loop-one.invariant.names q);
      turned = λ before all. c.in_ok-put_wanted.ensures.turned before (c.loop-one.invariant.turned before all);
      ordered = c.in_ok-put_wanted.ensures.ordered;
      was = c.put_wanted.ensures.was ∙ c.loop-one.invariant.was;
    }
