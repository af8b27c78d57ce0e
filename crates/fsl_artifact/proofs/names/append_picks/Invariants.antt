use Rattle.std.proofs.Common.{◌≡◌, ◌∷◌, ◌++◌, take}
use Rattle.std.specs.List.{flat_map}
use Rattle.std.specs.Prelude.{option_to_list}
use Rattle.fsl_name.specs.Ref.{own_names}
use Rattle.fsl_artifact.proofs.names.append_picks.Given as goal

abbrev pub invariant-loop-pick : goal.invariant-loop-pick
invariant-loop-pick l = l.names.items ≡ l.fn.names.items ++ flat_map (λ pick. own_names (pick.target ∷ option_to_list pick.other)) (take l.pick-index l.picks)
