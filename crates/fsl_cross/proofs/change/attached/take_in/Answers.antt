use Rattle.std.proofs.Common.{◌||◌, ap, ◌∙◌}
use Rattle.std.specs.Prelude.{is_some}
use Rattle.fsl_table.specs.Contents.{value_at}
use Rattle.fsl_table.specs.Exact.{pair_cmp}
use Rattle.fsl_table.proofs.Outcomes.{both_ok}
use Rattle.fsl_cross.specs.declared.Item.{Item}
use Rattle.fsl_cross.specs.Attached.{target_id, change_id, is_pair_of}
use Rattle.fsl_cross.proofs.PairsAdded.{pairs-added, pair-is}
use Rattle.fsl_cross.proofs.change.attached.take_in.Goals as goal

pub link-requires : goal.link-requires
link-requires g c = c.requires.attached.targets.ordered

pub link-requires-2 : goal.link-requires-2
link-requires-2 g c = c.requires.attached.changes.ordered

pub returns-clause-attached : goal.returns-clause-attached
returns-clause-attached g c =
    let items = c.args.items.now in
    let item = c.args.item.now in
    let old = c.args.attached.now in
    both_ok c.link-2.result
    (λ there ordered. record {
      targets = pairs-added items c.requires.new.rising item c.requires.new.there (λ (i : Item). target_id i.artifact) old.targets.entries c.link.new.pairs.entries c.requires.attached.targets
          (λ k. c.in_ok-link.ensures.pairs k ∙ ap (λ b. b || is_some (value_at pair_cmp k old.targets.entries)) (pair-is k c.target_of-target.result c.name.result)
          ∙ (λ i. is_pair_of k ((c.target_of-target.ensures ∙ ap target_id c.artifact.ensures) i) (c.name.ensures i) || is_some (value_at pair_cmp k old.targets.entries))) (λ _. c.in_ok-link.ensures.ordered);
      changes = pairs-added items c.requires.new.rising item c.requires.new.there (λ (i : Item). change_id i.artifact) old.changes.entries c.link-2.new.pairs.entries c.requires.attached.changes
          (λ k. there k ∙ ap (λ b. b || is_some (value_at pair_cmp k old.changes.entries)) (pair-is k c.change_of-change.result c.name-2.result)
          ∙ (λ i. is_pair_of k ((c.change_of-change.ensures ∙ ap change_id c.artifact-2.ensures) i) (c.name-2.ensures i) || is_some (value_at pair_cmp k old.changes.entries))) (λ _. ordered);
    }) c.link-2.ensures.pairs c.link-2.ensures.ordered
