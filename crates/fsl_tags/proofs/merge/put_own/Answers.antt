use Rattle.std.proofs.Common.{◌≡◌, ◌∙◌, false, Some, ap, sym, subst}
use Rattle.std.specs.Option.{option_map_or}
use Rattle.fsl_table.proofs.Outcomes.{if_ok_map}
use Rattle.fsl_tags.specs.Laid.{Rises}
use Rattle.fsl_tags.specs.Tags.{is_newer}
use Rattle.fsl_tags.proofs.Blending.{own-put}
use Rattle.fsl_tags.proofs.RowsOf.{of_tag}
use Rattle.fsl_tags.proofs.Trees.{put-rises}
use Rattle.fsl_tags.proofs.merge.put_own.Goals as goal

pub returns-else-is_under-clause-rising : goal.returns-else-is_under-clause-rising
returns-else-is_under-clause-rising c = if_ok_map c.put.result (λ new e. subst (λ l. Rises l) (sym e) (put-rises c.args.row.now c.args.own.now c.requires)) c.put.ensures

pub returns-else-is_under-clause-newest : goal.returns-else-is_under-clause-newest
returns-else-is_under-clause-newest c =
    let row = c.args.row.now in
    let a = c.args.own.now in
    let found = c.find.ensures ∙ ap (of_tag row) (c.bytes.ensures ∙ ap (λ a. a.tag) c.get.ensures) in
    let older : option_map_or (λ above. is_newer above (Some a)) (of_tag row a.tag) false ≡ false =
    (λ i. option_map_or (λ above. is_newer above (Some a)) (sym found i) false) ∙ sym c.is_under.ensures ∙ c.if-is_under.false in
    if_ok_map c.put.result (λ new e tag. ap (λ l. of_tag l tag) e ∙ own-put row a tag older) c.put.ensures
