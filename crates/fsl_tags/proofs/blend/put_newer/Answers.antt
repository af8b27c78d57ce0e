use Rattle.std.proofs.Common.{◌≡◌, ◌∙◌, true, ap, sym, subst}
use Rattle.fsl_table.proofs.Outcomes.{if_ok_map}
use Rattle.fsl_tags.specs.Laid.{Rises}
use Rattle.fsl_tags.specs.Tags.{is_newer}
use Rattle.fsl_tags.proofs.Blending.{newer-put}
use Rattle.fsl_tags.proofs.RowsOf.{of_tag}
use Rattle.fsl_tags.proofs.Trees.{put-rises}
use Rattle.fsl_tags.proofs.blend.put_newer.Goals as goal

pub returns-then-is_newer-clause-rises : goal.returns-then-is_newer-clause-rises
returns-then-is_newer-clause-rises c = if_ok_map c.put.result (λ new e. subst (λ l. Rises l) (sym e) (put-rises c.args.row.now c.args.assertion.now c.requires)) c.put.ensures

pub returns-then-is_newer-clause-newest : goal.returns-then-is_newer-clause-newest
returns-then-is_newer-clause-newest c =
    let row = c.args.row.now in
    let a = c.args.assertion.now in
    let newer : is_newer a (of_tag row a.tag) ≡ true = (λ i. is_newer (sym c.get.ensures i) (of_tag row ((sym (c.bytes.ensures ∙ ap (λ a. a.tag) c.get-2.ensures)) i)))
    ∙ (λ i. is_newer c.get.result.now (sym c.find.ensures i)) ∙ sym c.is_newer.ensures ∙ c.if-is_newer.true in
    if_ok_map c.put.result (λ new e tag. ap (λ l. of_tag l tag) e ∙ newer-put row a tag newer) c.put.ensures
