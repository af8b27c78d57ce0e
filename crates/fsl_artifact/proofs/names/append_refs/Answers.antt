use Rattle.std.proofs.Common.{◌++◌, ap, ◌∙◌, arith}
use Rattle.std.specs.Prelude.{option_to_list}
use Rattle.fsl_name.specs.Ref.{own_name}
use Rattle.fsl_artifact.proofs.PutBehind.{put_behind}
use Rattle.fsl_artifact.proofs.names.append_refs.Goals as goal

pub loop-found-preserved : goal.loop-found-preserved
loop-found-preserved c =
    put_behind (λ r. option_to_list (own_name r)) c.args.refs.now c.found-item.result c.loop-found.found-index _ _ _ (omega arith) c.found-item.is
    c.loop-found.invariant (c.in_ok-append_optional.ensures ∙ ap (λ o. c.loop-found.names.items ++ option_to_list o) c.own.ensures)
