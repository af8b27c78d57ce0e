use Rattle.fsl_serve.proofs.Telling.{gains_one}
use Rattle.fsl_serve.proofs.calls.call.Goals as goal

pub returns-clause-may : goal.returns-clause-may
returns-clause-may g c = record { old = c.call.ensures.step.0; new = c.call.ensures.step.1; step = c.call.ensures.step.2 }

pub returns-clause-made : goal.returns-clause-made
returns-clause-made g c =
    gains_one _ _ c.args.event.now c.call.result (record { old = c.call.ensures.step.0; new = c.call.ensures.step.1; step = c.call.ensures.step.2 })
    c.call.ensures.told
