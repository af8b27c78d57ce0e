use Rattle.std.proofs.Common.{List, [], ◌∷◌, Bool, None, Ok, Err, sym, ◌∙◌, subst}
use Rattle.std.specs.Prelude.{IsTrue, OnErr, Result}
use Rattle.std.specs.Result.{result_err}
use Rattle.std.specs.List.{list_any}
use Rattle.fsl_answer.specs.Contents.{is_pull}
use Rattle.fsl_repo.specs.declared.Event.TheVariants as event
use Rattle.fsl_serve.specs.declared.said.Halt.{Halt}
use Rattle.fsl_serve.specs.Calls.{Call, Phase, asked}
use Rattle.fsl_serve.specs.Points.{is_late}
use Rattle.fsl_serve.specs.Session.{where_so}
use Rattle.fsl_serve.proofs.Telling.{gains_weaker, gains_none}
use Rattle.fsl_serve.proofs.Phases.{phase_none}
use Rattle.fsl_serve.proofs.events.cluster_where_pulled.Goals as goal

at_err : (r : Result (Unit {0}) Halt) (Q : Type 0) → Q → OnErr r Q
at_err (Ok x) Q q = tt
at_err (Err h) Q q = q

pub returns-then-has_pull-clause-made : goal.returns-then-has_pull-clause-made
returns-then-has_pull-clause-made g c =
    let r = c.cluster.result in
    let F : Bool → List Call → Type 0 = λ b made. Phase (where_so b (event.Cluster ∷ [])) made (result_err r) × OnErr r (IsTrue (list_any is_late (asked made))) in
    gains_weaker _ _ (λ made. Phase (event.Cluster ∷ []) made (result_err r) × IsTrue (list_any is_late (asked made))) (F (list_any is_pull c.args.cards.now)) c.cluster.ensures.made
    (λ xs p. subst (λ (b : Bool). F b xs) (sym (sym c.has_pull.ensures ∙ c.if-has_pull.true)) (p.0, at_err r (IsTrue (list_any is_late (asked xs))) p.1))

pub returns-else-has_pull-clause-made : goal.returns-else-has_pull-clause-made
returns-else-has_pull-clause-made g c =
    let F : Bool → List Call → Type 0 = λ b made. Phase (where_so b (event.Cluster ∷ [])) made None × Unit {0} in
    gains_none _ (F (list_any is_pull c.args.cards.now)) (subst (λ (b : Bool). F b []) (sym (sym c.has_pull.ensures ∙ c.if-has_pull.false)) (phase_none, tt))
