use Rattle.std.proofs.Common.{◌≡◌, List, ◌∷◌, [], refl, sym, subst}
use Rattle.std.specs.Prelude.{IsTrue}
use Rattle.std.specs.List.{list_any}
use Rattle.std.specs.Result.{result_err}
use Rattle.fsl_repo.specs.declared.Event.TheVariants as event
use Rattle.fsl_serve.specs.Calls.{Call, Phase, asked}
use Rattle.fsl_serve.specs.Points.{is_late}
use Rattle.fsl_serve.proofs.Telling.{gains_weaker}
use Rattle.fsl_serve.proofs.Phases.{phase_one}
use Rattle.fsl_serve.proofs.events.cluster.Goals as goal

pub returns-clause-made : goal.returns-clause-made
returns-clause-made g c =
    let a = c.call.result in
    let R : List Call → Type 0 = λ made. Phase (event.Cluster ∷ []) made (result_err c.heed.result) × IsTrue (list_any is_late (asked made)) in
    gains_weaker _ _ (λ made. made ≡ (event.Cluster, a) ∷ []) R c.call.ensures.made (λ xs r. subst R (sym r) (phase_one event.Cluster a (result_err c.heed.result) c.heed.ensures, refl))
