use Rattle.std.proofs.Common.{◌≡◌, ◌∙◌, ◌<◌, ◌+◌, ◌-◌, ◌∷◌, drop, length, ap, sym, arith}
use Rattle.std.proofs.lemmas.List.{drop_more}
use Rattle.fsl_order.specs.Rows.{greater}
use Rattle.fsl_tags.specs.Tags.{newer_cmp}
use Rattle.fsl_tags.specs.Kept.{newest_of}
use Rattle.fsl_tags.proofs.Blending.{then-own}
use Rattle.fsl_tags.proofs.RowsOf.{of_tag}
use Rattle.fsl_tags.proofs.merge.put_each.Goals as goal

pub loop-left-preserved : goal.loop-left-preserved
loop-left-preserved c =
    let own = c.args.own.now in
    let left = c.loop-left.left in
    let j = left - 1 in
    let x = c.index-own-left.result in
    let on : j + 1 ≡ left = omega (arith, c.loop-left-test.true) in
    let less : j < length own = omega (arith, c.loop-left-test.true, c.loop-left.invariant.within) in
    let cut : drop j own ≡ x ∷ drop left own = drop_more own j x less ∙ (λ i. (sym c.index-own-left.is) i ∷ drop (on i) own) in
    record {
      rises = c.in_ok-new.ensures.rising;
      newest = λ tag.
          then-own c.args.row c.loop-left.new c.in_ok-new.new (drop left own) x tag (c.loop-left.invariant.newest tag) (c.in_ok-new.ensures.newest tag)
          ∙ ap (λ g. greater newer_cmp (newest_of tag g) (of_tag c.args.row tag)) (sym cut);
      within = omega (arith, c.loop-left.invariant.within);
    }

pub returns-clause-newest : goal.returns-clause-newest
returns-clause-newest c tag =
    let none : c.loop-left.left ≡ 0 = omega (arith, c.loop-left-test.false) in
    c.loop-left.invariant.newest tag ∙ ap (λ k. greater newer_cmp (newest_of tag (drop k c.args.own.now)) (of_tag c.args.row tag)) none
