use Rattle.std.proofs.Common.{◌∷◌, ◌++◌, ap, ◌∙◌, append_assoc, arith}
use Rattle.std.specs.Prelude.{option_to_list}
use Rattle.fsl_name.specs.Ref.{own_name, own_names}
use Rattle.fsl_manifest.specs.declared.Pick.{Pick}
use Rattle.fsl_artifact.proofs.PutBehind.{put_behind}
use Rattle.fsl_artifact.proofs.names.append_picks.Goals as goal

pub loop-pick-preserved : goal.loop-pick-preserved
loop-pick-preserved c =
    let pick = c.pick-item.result in
    let others = own_names (option_to_list pick.other) in
    put_behind (λ (pick : Pick). own_names (pick.target ∷ option_to_list pick.other)) c.args.picks.now pick c.loop-pick.pick-index _ _ _ (omega arith) c.pick-item.is c.loop-pick.invariant
    (c.in_ok-append_ref.ensures ∙ ap (λ l. l ++ others) (c.in_ok-append_optional.ensures ∙ ap (λ o. c.loop-pick.names.items ++ option_to_list o) c.own.ensures)
    ∙ append_assoc c.loop-pick.names.items (option_to_list (own_name pick.target)) others)
