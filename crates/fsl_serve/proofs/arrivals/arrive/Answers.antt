use Rattle.std.proofs.Common.{◌≡◌, ◌∙◌, sym, ap, subst, [], ◌∷◌}
use Rattle.std.specs.Result.{result_err}
use Rattle.fsl_repo.specs.declared.Event.{Event}
use Rattle.fsl_repo.specs.declared.Event.TheVariants as event
use Rattle.fsl_serve.specs.Calls.{Gains}
use Rattle.fsl_serve.proofs.Runs.{arrival_halted, arrival_not_noted}
use Rattle.fsl_serve.proofs.arrivals.arrive.Goals as goal

pub returns-in-Err-clause-made : goal.returns-in-Err-clause-made
returns-in-Err-clause-made g c =
    let F : Event → Type 0 = λ e. Gains g.D.Disk.state (g.T.Calls.calls c.args.pass.now) (g.T.Calls.calls c.call-answer.new.pass) (λ made. made ≡ (e, c.call-answer.result) ∷ []) in
    let made = subst F c.arrival-made.ensures c.call-answer.ensures.made in
    arrival_halted _ _ (event.Receive c.args.name c.args.bytes.now c.args.private c.args.receipt.now) c.call-answer.result c.in-Err.halt made (sym (ap result_err c.in-Err.is) ∙ c.heed.ensures)

pub returns-clause-made : goal.returns-clause-made
returns-clause-made g c =
    let F : Event → Type 0 = λ e. Gains g.D.Disk.state (g.T.Calls.calls c.args.pass.now) (g.T.Calls.calls c.call-answer.new.pass) (λ made. made ≡ (e, c.call-answer.result) ∷ []) in
    let made = subst F c.arrival-made.ensures c.call-answer.ensures.made in
    arrival_not_noted _ _ (event.Receive c.args.name c.args.bytes.now c.args.private c.args.receipt.now) c.call-answer.result made (sym c.heed.ensures ∙ ap result_err c.in-Ok.is)
