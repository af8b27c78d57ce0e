use Rattle.std.proofs.Common.{◌∷◌, drop}
use Rattle.std.specs.Prelude.{option_to_list}
use Rattle.std.specs.List.{AllByRecursion}
use Rattle.fsl_name.specs.Ref.{IsRef}
use Rattle.fsl_manifest.proofs.known.know_picks.Given as goal

abbrev pub invariant-loop-pick : goal.invariant-loop-pick
invariant-loop-pick l =
    AllByRecursion (λ pick. AllByRecursion IsRef (pick.target ∷ option_to_list pick.other)) (drop l.pick-index l.picks)
    → AllByRecursion (λ pick. AllByRecursion IsRef (pick.target ∷ option_to_list pick.other)) l.picks
