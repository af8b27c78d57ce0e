use Rattle.std.proofs.lemmas.List.{drop_more}
use Rattle.std.proofs.Common.{◌≡◌, ◌∙◌, ◌∷◌, ◌+◌, if◌then◌else◌, drop, ap, sym, is_some}
use Rattle.std.specs.Str.{bytes_eq}
use Rattle.std.specs.Cmp.Lexicographic.{bytes_decides}
use Rattle.fsl_order.specs.Names.{bytes_cmp, has}
use Rattle.fsl_table.specs.Contents.{value_at}
use Rattle.fsl_leaves.specs.Kept.{counted}
use Rattle.fsl_leaves.proofs.Facts.{count-step}
use Rattle.fsl_leaves.proofs.ends.recount.Goals as goal

pub set_leaf-requires : goal.set_leaf-requires
set_leaf-requires g c = c.loop-name.invariant.ordered

pub loop-name-preserved : goal.loop-name-preserved
loop-name-preserved g c =
    let i = c.loop-name.name-index in
    let p = c.name-item.result in
    let rest = drop (i + 1) c.args.names.now in
    let es = c.args.facts.now.held.entries in
    let cs = c.args.children.now.held.entries in
    let cut : drop i c.args.names.now ≡ p ∷ rest = drop_more c.args.names.now i p c.loop-name-test.true ∙ ap (λ x. x ∷ rest) (sym c.name-item.is) in
    record {
      leaves = λ q.
          ap (λ b. if has rest q then counted es cs q else b) (c.in_ok-set_leaf.ensures.leaves q)
          ∙ count-step (bytes_eq q p) (has rest q) (counted es cs q) c.in_ok-ended.ended (is_some (value_at bytes_cmp q c.loop-name.leaves.held.entries)) _
          (λ s. c.in_ok-ended.ensures.is ∙ ap (counted es cs) (sym ((bytes_decides q p).0 s)))
          (ap (λ l. if has l q then counted es cs q else is_some (value_at bytes_cmp q c.loop-name.leaves.held.entries)) (sym cut) ∙ c.loop-name.invariant.leaves q);
      flips = λ before all. c.in_ok-set_leaf.ensures.flips before (c.loop-name.invariant.flips before all);
      ordered = c.in_ok-set_leaf.ensures.ordered;
      was = c.set_leaf.ensures.was ∙ c.loop-name.invariant.was;
    }
