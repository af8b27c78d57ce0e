use Rattle.std.proofs.Common.{rules, ◌≡◌, ◌||◌, ap, refl, ◌∙◌}
use Rattle.std.specs.Prelude.{is_some, filter_map}
use Rattle.std.specs.List.{list_any}
use Rattle.fsl_table.specs.Contents.{value_at}
use Rattle.fsl_table.specs.Exact.{pair_cmp}
use Rattle.fsl_cross.specs.Attached.{target_pair, target_id, is_pair, is_pair_of}
use Rattle.fsl_cross.proofs.Paired.{pair-next, none-ordered}
use Rattle.fsl_cross.proofs.attached.targets.Goals as goal

pub loop-item-init : goal.loop-item-init
loop-item-init g c =
    let whole : c.into_iter-item-iterator.result ≡ c.args.items.now = search rules in (
      tt,
      tt,
      none-ordered c.new-pairs.result.entries c.new-pairs.ensures,
      λ k. ap (λ es. is_some (value_at pair_cmp k es) || list_any (is_pair k) (filter_map target_pair c.into_iter-item-iterator.result)) c.new-pairs.ensures ∙ ap (λ l. list_any (is_pair k) (filter_map target_pair l)) whole,
    )

pub loop-item-preserved : goal.loop-item-preserved
loop-item-preserved g c = (
  tt,
  tt,
  c.in_ok-put.ensures.ordered c.loop-item.invariant.2,
  λ k. pair-next target_pair k c.in-Some.item.now c.in-Some.item.now.name (target_id c.in-Some.item.now.artifact) c.loop-item.item-iterator c.next.new.self c.args.items.now (is_some (value_at pair_cmp k c.loop-item.pairs.entries)) (is_some (value_at pair_cmp k c.put.new.pairs.entries))
      refl (c.in_ok-put.ensures.there k ∙ (λ i. is_pair_of k ((c.target_of.ensures ∙ ap target_id c.artifact.ensures) i) (c.name.ensures i) || is_some (value_at pair_cmp k c.loop-item.pairs.entries))) c.in-Some.ensures.steps (c.loop-item.invariant.3 k),
)
