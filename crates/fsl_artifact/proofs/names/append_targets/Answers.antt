use Rattle.std.proofs.Common.{arith}
use Rattle.std.specs.Prelude.{option_to_list}
use Rattle.fsl_name.specs.Ref.{own_names}
use Rattle.fsl_grammar.specs.declared.TagCard.{TagCard}
use Rattle.fsl_artifact.proofs.PutBehind.{put_behind}
use Rattle.fsl_artifact.proofs.names.append_targets.Goals as goal

pub loop-tag-preserved : goal.loop-tag-preserved
loop-tag-preserved c =
    put_behind (λ (tag : TagCard). own_names (option_to_list tag.target)) c.args.tags.now c.tag-item.result c.loop-tag.tag-index _ _ _ (omega arith) c.tag-item.is
    c.loop-tag.invariant c.in_ok-append_ref.ensures
