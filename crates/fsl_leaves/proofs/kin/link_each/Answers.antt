use Rattle.std.proofs.lemmas.List.{drop_more}
use Rattle.std.proofs.Common.{◌≡◌, ◌||◌, ◌∙◌, ◌∷◌, ◌+◌, drop, ap, sym, is_some, arith}
use Rattle.std.specs.Str.{bytes_eq}
use Rattle.fsl_order.specs.Names.{has}
use Rattle.fsl_table.specs.Contents.{value_at}
use Rattle.fsl_table.specs.Pairs.{is_name}
use Rattle.fsl_leaves.specs.Keys.{kin_cmp, is_kin}
use Rattle.fsl_leaves.proofs.Kinship.{link-step}
use Rattle.fsl_leaves.proofs.kin.link_each.Goals as goal

pub link-requires : goal.link-requires
link-requires g c = c.loop-parent.invariant.ordered

pub loop-parent-preserved : goal.loop-parent-preserved
loop-parent-preserved g c =
    let i = c.loop-parent.parent-index in
    let p = c.parent-item.result in
    let rest = drop (i + 1) c.args.parents.now in
    let child = c.args.child in
    let branch = c.args.branch.now in
    let es = c.loop-parent.children.held.entries in
    let cut : drop i c.args.parents.now ≡ p ∷ rest = drop_more c.args.parents.now i p c.loop-parent-test.true ∙ ap (λ x. x ∷ rest) (sym c.parent-item.is) in
    record {
      pairs = λ k.
          ap (λ b. b || is_kin child rest branch k) (c.in_ok-link.ensures.pairs k)
          ∙ link-step (is_name k.second child) (bytes_eq k.first.parent p) (bytes_eq branch k.first.branch) (is_some (value_at kin_cmp k es)) (has rest k.first.parent) _
          (ap (λ l. is_some (value_at kin_cmp k es) || is_kin child l branch k) (sym cut) ∙ c.loop-parent.invariant.pairs k);
      ordered = c.in_ok-link.ensures.ordered;
      was = c.link.ensures.was ∙ c.loop-parent.invariant.was;
      cost = omega (arith, c.link.ensures.most, c.loop-parent.invariant.cost);
      back = omega (arith, c.link.ensures.back, c.loop-parent.invariant.back);
      within = omega (arith, c.loop-parent-test.true);
    }
