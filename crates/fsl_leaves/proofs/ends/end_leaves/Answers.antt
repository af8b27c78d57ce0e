use Rattle.std.proofs.lemmas.List.{drop_more}
use Rattle.std.proofs.Common.{◌≡◌, ◌&&◌, ◌∙◌, ◌∷◌, ◌+◌, not, drop, ap, sym, is_some, arith}
use Rattle.std.specs.Str.{bytes_eq}
use Rattle.fsl_order.specs.Names.{bytes_cmp, has}
use Rattle.fsl_table.specs.Contents.{value_at}
use Rattle.fsl_leaves.specs.Kept.{is_in}
use Rattle.fsl_leaves.proofs.Facts.{end-step}
use Rattle.fsl_leaves.proofs.ends.end_leaves.Goals as goal

pub end_leaf-requires : goal.end_leaf-requires
end_leaf-requires g c = c.loop-parent.invariant.ordered

pub loop-parent-preserved : goal.loop-parent-preserved
loop-parent-preserved g c =
    let i = c.loop-parent.parent-index in
    let p = c.parent-item.result in
    let rest = drop (i + 1) c.args.parents.now in
    let cut : drop i c.args.parents.now ≡ p ∷ rest = drop_more c.args.parents.now i p c.loop-parent-test.true ∙ ap (λ x. x ∷ rest) (sym c.parent-item.is) in
    record {
      leaves = λ q.
          ap (λ b. b && not (has rest q && is_in (value_at bytes_cmp q c.args.facts.now.held.entries) c.args.branch.now)) (c.in_ok-end_leaf.ensures.leaves q)
          ∙ end-step (is_some (value_at bytes_cmp q c.loop-parent.leaves.held.entries)) (bytes_eq q p) (has rest q) (is_in (value_at bytes_cmp q c.args.facts.now.held.entries) c.args.branch.now) _
          (ap (λ l. is_some (value_at bytes_cmp q c.loop-parent.leaves.held.entries) && not (has l q && is_in (value_at bytes_cmp q c.args.facts.now.held.entries) c.args.branch.now)) (sym cut) ∙ c.loop-parent.invariant.leaves q);
      flips = λ before all. c.in_ok-end_leaf.ensures.flips before (c.loop-parent.invariant.flips before all);
      ordered = c.in_ok-end_leaf.ensures.ordered;
      was = c.end_leaf.ensures.was ∙ c.loop-parent.invariant.was;
      cost = omega (arith, c.end_leaf.ensures.most, c.loop-parent.invariant.cost);
      back = omega (arith, c.end_leaf.ensures.back, c.loop-parent.invariant.back);
      within = omega (arith, c.loop-parent-test.true);
    }
