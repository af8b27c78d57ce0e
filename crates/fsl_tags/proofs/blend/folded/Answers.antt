use Rattle.std.proofs.Common.{◌≡◌, ◌∙◌, ◌+◌, ◌++◌, ◌∷◌, [], take, ap, sym}
use Rattle.std.proofs.lemmas.List.{take_more}
use Rattle.fsl_order.specs.Rows.{greater}
use Rattle.fsl_tags.specs.Tags.{newer_cmp}
use Rattle.fsl_tags.specs.Kept.{newest_of}
use Rattle.fsl_tags.proofs.Blending.{then-newer}
use Rattle.fsl_tags.proofs.RowsOf.{of_tag}
use Rattle.fsl_tags.proofs.blend.folded.Goals as goal

pub loop-assertion-preserved : goal.loop-assertion-preserved
loop-assertion-preserved c =
    let row = c.args.row.now in
    let group = c.args.group.now in
    let i = c.loop-assertion.assertion-index in
    let x = c.assertion-item.result in
    let more : take (i + 1) group ≡ take i group ++ x ∷ [] = take_more group i x c.loop-assertion-test.true ∙ ap (λ y. take i group ++ y ∷ []) (sym c.assertion-item.is) in
    record {
      rises = c.in_ok-new-2.ensures.rises;
      newest = λ tag.
          then-newer row c.loop-assertion.new c.in_ok-new-2.new (take i group) x tag (c.loop-assertion.invariant.newest tag) (c.in_ok-new-2.ensures.newest tag)
          ∙ ap (λ g. greater newer_cmp (of_tag row tag) (newest_of tag g)) (sym more);
    }
